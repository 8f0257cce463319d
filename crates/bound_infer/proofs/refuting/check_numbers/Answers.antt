use Rattle.std.proofs.Common.{ap, sym, ◌∙◌, subst, length}
use Rattle.raml_num.specs.Sums.{NoneNegative}
use Rattle.linear_rows.specs.Systems.{Refutes}
use Rattle.farkas_check.specs.Checks.{EachPasses, refuting}
use Rattle.bound_infer.proofs.Clearing.{vector_natural, vector_length, clears}
use Rattle.bound_infer.proofs.refuting.check_numbers.Goals as goal

pub refutes_quickly-requires : goal.refutes_quickly-requires
refutes_quickly-requires c = record {
  one_each = ap length c.requires.numbers ∙ vector_length c.args.system.now c.args.farkas.now;
  natural = subst NoneNegative (sym c.requires.numbers) (vector_natural c.args.system.now c.args.farkas.now c.requires.rise);
}

pub returns-in-Yes-clause-told : goal.returns-in-Yes-clause-told
returns-in-Yes-clause-told c = λ none.
    let s = c.args.system.now in
    let es = c.args.farkas.now in
    clears s es c.requires.rows
    (subst (λ v. EachPasses (refuting s v)) c.requires.numbers (rw c.in-Yes.is at c.refutes_quickly.ensures.first))
    (subst (Refutes s) c.requires.numbers (c.refutes_quickly.ensures.yes.0 c.in-Yes.is).0) none

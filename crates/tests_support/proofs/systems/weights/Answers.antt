use Rattle.std.proofs.Common.{rules, sym, subst, FitsSigned}
use Rattle.std.specs.Int.{w128}
use Rattle.std.proofs.lemmas.Int.{to_z-of_z}
use Rattle.raml_num.specs.Sums.{NoneNegative}
use Rattle.tests_support.proofs.Spelling.{natural_more}
use Rattle.tests_support.proofs.systems.weights.Goals as goal

pub loop-unknown-preserved : goal.loop-unknown-preserved
loop-unknown-preserved c =
    let f : FitsSigned w128 c.in_ok-weight.field-0 = search rules in
    (search rules, subst NoneNegative (sym c.in_ok-push.ensures.items) (natural_more c.loop-unknown.all.items _ c.loop-unknown.invariant.1 (rw (to_z-of_z w128 c.in_ok-weight.field-0 f) c.in_ok-weight.ensures)))

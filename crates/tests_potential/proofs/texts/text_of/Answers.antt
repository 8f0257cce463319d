use Rattle.std.proofs.Common.{SFits, rules}
use Rattle.std.specs.Int.{w128}
use Rattle.std.proofs.lemmas.Int.{to_z-of_z}
use Rattle.std.proofs.Common.{◌<ℤ◌, pos, sym, subst}
use Rattle.tests_potential.proofs.SampledTexts.{terms_are}
use Rattle.tests_potential.proofs.texts.text_of.Goals as goal

pub print-requires : goal.print-requires
print-requires c =
    let fits : SFits w128 c.args.den = search rules in
    record {
      positive = subst (λ z. pos 0 <ℤ z) (sym (to_z-of_z w128 c.args.den fits)) c.requires.positive;
      terms = terms_are c.in_ok-terms.terms.items c.args.tuples.items c.in_ok-terms.ensures.tuples c.in_ok-terms.ensures.natural c.requires.low c.requires.distinct;
    }

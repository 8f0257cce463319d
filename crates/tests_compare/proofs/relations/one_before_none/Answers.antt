use Rattle.std.proofs.Common.{◌<ℤ◌, pos, [], ◌∷◌, sym, ◌∙◌, subst}
use Rattle.std.specs.Int.{w128}
use Rattle.std.proofs.lemmas.Int.{to_z-of_z}
use Rattle.tests_compare.proofs.Listed.{reversed_terms}
use Rattle.tests_compare.proofs.relations.one_before_none.Goals as goal

pub returns : goal.returns
returns c = record {
  positive = subst (λ z. pos 0 <ℤ z) (sym (to_z-of_z w128 c.args.den c.ranges.den)) c.requires;
  terms = reversed_terms c.in_ok-terms.terms.items (c.in_ok-terms.ensures.items ∙ (λ i. (c.in_ok-one.ensures i, pos 3) ∷ (c.in_ok-none.ensures i, pos 2) ∷ []));
}

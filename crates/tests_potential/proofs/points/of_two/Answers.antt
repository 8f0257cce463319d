use Rattle.std.proofs.Common.{◌<ℤ◌, pos, [], ◌∷◌, SFits, rules, sym, ap, ◌∙◌, subst}
use Rattle.std.specs.Int.{w128}
use Rattle.std.proofs.lemmas.Int.{to_z-of_z}
use Rattle.base_poly.specs.Read.{plains_of}
use Rattle.tests_potential.proofs.SampledPoints.{two_terms}
use Rattle.tests_potential.proofs.points.of_two.Goals as goal

pub returns-clause-poly : goal.returns-clause-poly
returns-clause-poly c =
    let den : SFits w128 c.from.result = search rules in
    let first : SFits w128 c.coefficient.result = search rules in
    let last : SFits w128 c.coefficient-2.result = search rules in
    let some : pos 0 <ℤ c.from.result = search rules in
    let one = c.new.ensures ∙ ap plains_of c.in_ok-vec.ensures.items in
    let other = c.new-2.ensures ∙ ap plains_of c.in_ok-vec-2.ensures.items in
    let items = c.in_ok-vec-3.ensures.items ∙ (λ n. (one n, to_z-of_z w128 c.coefficient.result first n) ∷ (other n, to_z-of_z w128 c.coefficient-2.result last n) ∷ []) in
    record {
      positive = subst (λ z. pos 0 <ℤ z) (sym (to_z-of_z w128 c.from.result den)) some;
      terms = two_terms _ _ _ _ _ items c.requires.ordered c.requires.low.0 c.requires.low.1 c.coefficient.ensures c.coefficient-2.ensures;
    }

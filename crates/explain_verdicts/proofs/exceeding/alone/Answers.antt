use Rattle.std.proofs.Common.{◌≤◌, ◌<ℤ◌, ◌≤ℤ◌, pos, SFits, to_z, of_z, rules, sym, subst}
use Rattle.std.specs.Int.{w128}
use Rattle.std.proofs.lemmas.Int.{to_z-of_z}
use Rattle.base_poly.specs.Plain.{degrees}
use Rattle.base_poly.specs.Indices.{AreIndices}
use Rattle.explain_verdicts.proofs.Alone.{alone_found}
use Rattle.explain_verdicts.proofs.exceeding.alone.Goals as goal

pub returns-clause-found : goal.returns-clause-found
returns-clause-found c As indices =
    let den : SFits w128 c.args.den = search rules in
    let number : SFits w128 c.args.number = search rules in
    let same = sym c.in_ok-copy.ensures in
    alone_found As c.in_ok-copy.field-0 (to_z w128 (of_z w128 c.args.number)) (to_z w128 (of_z w128 c.args.den)) c.in_ok-vec.field-0
    (subst (λ z. pos 0 <ℤ z) (sym (to_z-of_z w128 c.args.den den)) c.requires.positive)
    (subst (λ z. pos 0 ≤ℤ z) (sym (to_z-of_z w128 c.args.number number)) c.requires.natural)
    (subst (λ t. degrees t ≤ 4) same c.requires.low) (subst (λ t. AreIndices t As) same indices) c.in_ok-vec.ensures.items

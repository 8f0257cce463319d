use Rattle.std.proofs.Common.{SFits, rules, ap, ◌∙◌, subst}
use Rattle.std.specs.Prelude.{unsigned_abs}
use Rattle.std.specs.Int.{w128}
use Rattle.std.specs.List.{IsDistinct}
use Rattle.std.proofs.lemmas.Int.{to_z-of_z}
use Rattle.std.proofs.lemmas.Bool.Decides.{Decides-at}
use Rattle.base_poly.specs.Plain.{alike}
use Rattle.base_poly.specs.Poly.{den_of, magnitudes, terms_of}
use Rattle.bound_compare.specs.Compare.{sum_of}
use Rattle.bound_compare.specs.Tests.{all_at_most}
use Rattle.bound_compare.proofs.Numbers.{same_keys}
use Rattle.bound_compare.proofs.Decided.{at_most_decided}
use Rattle.bound_compare.proofs.coefficients.is_at_most.Goals as goal

pub returns : goal.returns
returns c =
    let p = c.args.first.now in
    let q = c.args.second.now in
    let fits : SFits w128 p.den = search rules in
    let other_fits : SFits w128 q.den = search rules in
    let den = c.unsigned_abs-den.ensures.value ∙ ap unsigned_abs (to_z-of_z w128 p.den fits) in
    let other_den = c.unsigned_abs-other_den.ensures.value ∙ ap unsigned_abs (to_z-of_z w128 q.den other_fits) in
    let terms = ap magnitudes c.deref.ensures.value in
    let others = ap magnitudes c.deref-2.ensures.value in
    Decides-at c.are_at_most.result (all_at_most (terms_of p) (den_of p) (terms_of q) (den_of q))
    (c.are_at_most.ensures ∙ (λ i. all_at_most (terms i) (den i) (others i) (other_den i)))
    (at_most_decided (sum_of p) (sum_of q) (subst (IsDistinct alike) (same_keys p.terms.items) c.requires.first.terms.distinct))

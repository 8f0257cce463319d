use Rattle.std.proofs.Common.{◌≡◌, ap, sym, ◌∙◌, subst, length, pos, ◌<ℤ◌, unsigned_abs}
use Rattle.std.proofs.lemmas.Int.{to_z-of_z}
use Rattle.base_poly.specs.Indices.{index_list}
use Rattle.base_poly.specs.Poly.{magnitudes, AreTerms}
use Rattle.normal_spec.specs.Context.{types}
use Rattle.normal_spec.specs.Read.{parameters_of}
use Rattle.rules_spec.specs.Stand.{Within}
use Rattle.cert_check.specs.Bound.{over}
use Rattle.cert_check.proofs.Terms.{are_within, terms_over, are_terms}
use Rattle.cert_check.proofs.bound.poly_of.Goals as goal

pub terms_of-requires : goal.terms_of-requires
terms_of-requires c =
    let As = types (parameters_of c.args.params.now) in
    subst (Within (length c.deref.result.now)) (sym c.entries.ensures.all)
    (subst (λ ts. Within (length ts) c.args.annot.now) (sym (c.deref.ensures.value ∙ c.in_ok-tuples.ensures)) (are_within As c.args.degree c.args.annot.now c.requires.within))

pub returns-clause-told : goal.returns-clause-told
returns-clause-told c =
    let As = types (parameters_of c.args.params.now) in
    let tuples = c.deref.ensures.value ∙ c.in_ok-tuples.ensures in
    let terms : c.in_ok-terms.terms.items ≡ over (index_list As c.args.degree) c.args.annot.now = c.in_ok-terms.ensures ∙ (λ i. over (tuples i) (c.entries.ensures.all i)) in
    (λ i. (unsigned_abs (to_z-of_z _ c.args.scale c.ranges.scale i), magnitudes (terms i)))
    ∙ ap (λ ts. (unsigned_abs c.args.scale, ts)) (terms_over As c.args.degree c.args.annot.now)

pub returns-clause-poly : goal.returns-clause-poly
returns-clause-poly c =
    let As = types (parameters_of c.args.params.now) in
    let tuples = c.deref.ensures.value ∙ c.in_ok-tuples.ensures in
    let terms : c.in_ok-terms.terms.items ≡ over (index_list As c.args.degree) c.args.annot.now = c.in_ok-terms.ensures ∙ (λ i. over (tuples i) (c.entries.ensures.all i)) in
    record {
      positive = subst (λ z. pos 0 <ℤ z) (sym (to_z-of_z _ c.args.scale c.ranges.scale)) c.requires.positive;
      terms = subst AreTerms (sym terms) (are_terms As c.args.degree c.args.annot.now c.requires.low c.requires.within c.entries.ensures.rise);
    }

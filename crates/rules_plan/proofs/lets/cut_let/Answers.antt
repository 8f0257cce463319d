use Rattle.std.proofs.Common.{◌≡◌, ◌∙◌, ◌++◌, ◌∷◌, [], List, ap, arith}
use Rattle.raml_syntax.specs.Read.{ty_of}
use Rattle.raml_syntax.specs.Tree.{Type'}
use Rattle.base_poly.specs.Read.{context_of}
use Rattle.index_shift.specs.Contexts.{marked_items, other_items}
use Rattle.normal_spec.specs.Context.{types, inners, others}
use Rattle.normal_spec.specs.Read.{norm_of, parameters_of}
use Rattle.annot_types.specs.Carried.{marks}
use Rattle.annot_types.specs.Rows.{size as size_of}
use Rattle.rules_plan.specs.Down.{up}
use Rattle.tuple_ranks.specs.Spots.{half_spots, joined_spots}
use Rattle.rules_plan.specs.Wide.{at_budget, seam_at, seams_from}
use Rattle.rules_plan.proofs.Calling.{at_up}
use Rattle.rules_plan.proofs.Widened.{marked_is, other_is, seams_are}
use Rattle.rules_plan.proofs.lets.cut_let.Goals as goal

pub returns : goal.returns
returns c =
    let a = c.args in
    let top = a.top in
    let C = parameters_of a.context.now in
    let e = norm_of a.a.now in
    let A = ty_of a.bound.now in
    let spots = c.in_ok-spots.ensures in
    let m : c.deref.result.now ≡ marks e C = c.deref.ensures.value ∙ c.in_ok-marks.ensures in
    let t : context_of c.deref-2.result.now ≡ types C = ap context_of c.deref-2.ensures.value ∙ c.in_ok-types.ensures in
    let marked : marked_items c.deref.result.now (context_of c.deref-2.result.now) ≡ types (inners e C) = (λ i. marked_items (m i) (t i)) ∙ marked_is e C in
    let other : other_items c.deref.result.now (context_of c.deref-2.result.now) ≡ types (others e C) = (λ i. other_items (m i) (t i)) ∙ other_is e C in
    let inner_sizes = spots.marked ∙ ap (λ As. up (size_of As) top) marked in
    let rest_sizes = spots.rest ∙ ap (λ As. up (size_of (As ++ A ∷ [])) top) other in
    let at_top = λ (As : List Type'). at_up (size_of As) top top (omega arith) in
    let used = c.at_budget-inner.ensures ∙ ap (λ s. at_budget s top) (c.deref-3.ensures.value ∙ inner_sizes) ∙ at_top (types (inners e C)) in
    let left = c.at_budget-rest.ensures ∙ ap (λ s. at_budget s top) (c.deref-4.ensures.value ∙ rest_sizes) ∙ at_top (types (others e C) ++ A ∷ []) in
    let halves = c.deref-5.ensures.value ∙ spots.halves ∙ (λ i. half_spots (m i) (t i) top) in
    let joined = c.deref-6.ensures.value ∙ spots.joined ∙ ap (λ As. joined_spots As (A ∷ []) top) other in
    record {
      whole_sizes = spots.whole ∙ ap (λ As. up (size_of As) top) t;
      inner_sizes = inner_sizes;
      other_sizes = spots.others ∙ ap (λ As. up (size_of As) top) other;
      bound_sizes = spots.bound;
      rest_sizes = rest_sizes;
      seams = c.in_ok-seams.ensures ∙ (λ i. seams_from (seam_at (halves i) (used i) (left i)) 0 (joined i)) ∙ seams_are e C A top;
    }

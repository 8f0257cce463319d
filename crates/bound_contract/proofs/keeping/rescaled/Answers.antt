use Rattle.std.proofs.Common.{◌≡◌, ◌*◌, ap, sym, ◌∙◌, inl, take}
use Rattle.std.specs.Prelude.{nat_lt, unsigned_abs}
use Rattle.std.specs.Int.{w128}
use Rattle.std.proofs.lemmas.Int.{to_z-of_z}
use Rattle.cost_free.specs.Task as k
use Rattle.annot_types.specs.Certificate.{Certificate}
use Rattle.annot_types.specs.Held.{scale_of, scale_for}
use Rattle.annot_types.specs.Read.{blocks_of}
use Rattle.simplex_integers.specs.Wholes.{most}
use Rattle.other_blocks.specs.Leaving.{state_before}
use Rattle.bound_contract.specs.Sites.{certificate_at}
use Rattle.bound_contract.proofs.Rescaling.{before_is, scale_leaves, none_rescales}
use Rattle.bound_contract.proofs.keeping.rescaled.Goals as goal

pub returns-in-Some-clause-some : goal.returns-in-Some-clause-some
returns-in-Some-clause-some c =
    let site = c.args.site.now in
    let t = unsigned_abs c.args.times in
    let kc = c.certificate-certificate.ensures.certificate in
    let st = state_before (certificate_at site) site.place in
    let scale : unsigned_abs (scale_of (certificate_at site) site.meter) ≡ c.scale_for-scale.result =
    sym (c.scale_for-scale.ensures ∙ ap (λ (x : Certificate). scale_for x (k.With site.meter)) kc) in
    let blocks = before_is site c.certificate-certificate.result.now.blocks.items (ap (λ (x : Certificate). x.blocks) kc)
    ∙ ap (λ bs. blocks_of (take site.place bs)) (sym c.deref.ensures.value) in
    let some = simp (to_z-of_z w128 _ c.ranges.times) at c.in-Some.ensures.some in
    inl (some st blocks scale)

pub returns-then-scale_fits-clause-none : goal.returns-then-scale_fits-clause-none
returns-then-scale_fits-clause-none c =
    let site = c.args.site.now in
    let t = unsigned_abs c.args.times in
    let kc = c.certificate-certificate.ensures.certificate in
    let st = state_before (certificate_at site) site.place in
    let scale : unsigned_abs (scale_of (certificate_at site) site.meter) ≡ c.scale_for-scale.result =
    sym (c.scale_for-scale.ensures ∙ ap (λ (x : Certificate). scale_for x (k.With site.meter)) kc) in
    let blocks = before_is site c.certificate-certificate.result.now.blocks.items (ap (λ (x : Certificate). x.blocks) kc)
    ∙ ap (λ bs. blocks_of (take site.place bs)) (sym c.deref.ensures.value) in
    let none = simp (to_z-of_z w128 _ c.ranges.times) at c.in-None.ensures.none in
    let size : c.unsigned_abs.result ≡ t = simp (to_z-of_z w128 _ c.ranges.times) at c.unsigned_abs.ensures.value in
    let test = (λ i. nat_lt (sym size i * scale i) most) ∙ sym c.scale_fits.ensures in
    none_rescales site t (none st blocks scale) (test ∙ c.if-scale_fits.true)

pub returns-else-scale_fits-clause-some : goal.returns-else-scale_fits-clause-some
returns-else-scale_fits-clause-some c =
    let site = c.args.site.now in
    let t = unsigned_abs c.args.times in
    let kc = c.certificate-certificate.ensures.certificate in
    let st = state_before (certificate_at site) site.place in
    let scale : unsigned_abs (scale_of (certificate_at site) site.meter) ≡ c.scale_for-scale.result =
    sym (c.scale_for-scale.ensures ∙ ap (λ (x : Certificate). scale_for x (k.With site.meter)) kc) in
    let blocks = before_is site c.certificate-certificate.result.now.blocks.items (ap (λ (x : Certificate). x.blocks) kc)
    ∙ ap (λ bs. blocks_of (take site.place bs)) (sym c.deref.ensures.value) in
    let none = simp (to_z-of_z w128 _ c.ranges.times) at c.in-None.ensures.none in
    let size : c.unsigned_abs.result ≡ t = simp (to_z-of_z w128 _ c.ranges.times) at c.unsigned_abs.ensures.value in
    let test = (λ i. nat_lt (sym size i * scale i) most) ∙ sym c.scale_fits.ensures in
    scale_leaves site t (none st blocks scale) (test ∙ c.if-scale_fits.false)

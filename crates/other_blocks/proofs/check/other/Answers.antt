use Rattle.std.proofs.Common.{◌≡◌, ◌<◌, refl, ap, sym, ◌∙◌, subst, length, true, false, Bool, Some}
use Rattle.std.specs.Prelude.{unsigned_abs}
use Rattle.std.specs.Int.{w128}
use Rattle.std.proofs.lemmas.Int.{to_z-of_z}
use Rattle.annot_types.specs.Read as a
use Rattle.rules_plan.specs.Read.{program_in}
use Rattle.cert_check.specs.Fault.{Shape}
use Rattle.other_blocks.specs.Other.{place_among, IsOwn, OwnIsTried, OtherFinds}
use Rattle.other_blocks.proofs.Over.{own_is, not_tried, waiting_is}
use Rattle.other_blocks.proofs.check.other.Goals as goal

no : (b : Bool) → b ≡ true → b ≡ false → ⊥
no b e f = cc

pub returns-then-not-is_tried-clause-fault : goal.returns-then-not-is_tried-clause-fault
returns-then-not-is_tried-clause-fault c =
    let cert = c.certificate-certificate.result.now in
    let held = a.certificate_of cert in
    let block = a.block_of c.args.block in
    let t = unsigned_abs c.args.times in
    let P = program_in c.args.checked.now.program in
    let first : place_among block.task held.blocks ≡ Some c.in-Some.place =
    sym (c.in-Some.ensures.is ∙ ap (λ xs. place_among block.task (a.blocks_of xs)) c.deref.ensures.value) in
    let low : c.in-Some.place < length cert.blocks.items = subst (λ xs. c.in-Some.place < length xs) c.deref.ensures.value c.in-Some.ensures.there in
    subst (λ x. OtherFinds P x t block (Some (Shape c.in-Some.place))) c.certificate-certificate.ensures.certificate
    (waiting_is held block cert.blocks.items refl c.in-Some.place first c.index.result.now low c.index.ensures P t
    (λ tried. no c.is_tried.result (c.is_tried.ensures.1 tried) c.if-not-is_tried.true))

pub returns-then-not-is_tried-clause-invalid : goal.returns-then-not-is_tried-clause-invalid
returns-then-not-is_tried-clause-invalid c = λ other.
    let cert = c.certificate-certificate.result.now in
    let held = a.certificate_of cert in
    let block = a.block_of c.args.block in
    let first : place_among block.task held.blocks ≡ Some c.in-Some.place =
    sym (c.in-Some.ensures.is ∙ ap (λ xs. place_among block.task (a.blocks_of xs)) c.deref.ensures.value) in
    let low : c.in-Some.place < length cert.blocks.items = subst (λ xs. c.in-Some.place < length xs) c.deref.ensures.value c.in-Some.ensures.there in
    not_tried held block cert.blocks.items refl c.in-Some.place first c.index.result.now low c.index.ensures (program_in c.args.checked.now.program) (unsigned_abs c.args.times)
    (λ tried. no c.is_tried.result (c.is_tried.ensures.1 tried) c.if-not-is_tried.true)
    (subst (λ x. OwnIsTried (program_in c.args.checked.now.program) x (unsigned_abs c.args.times) block) (sym c.certificate-certificate.ensures.certificate) other.tried)

pub other_there-requires-clause-own : goal.other_there-requires-clause-own
other_there-requires-clause-own c =
    let cert = c.certificate-certificate.result.now in
    let held = a.certificate_of cert in
    let block = a.block_of c.args.block in
    let first : place_among block.task held.blocks ≡ Some c.in-Some.place =
    sym (c.in-Some.ensures.is ∙ ap (λ xs. place_among block.task (a.blocks_of xs)) c.deref.ensures.value) in
    let low : c.in-Some.place < length cert.blocks.items = subst (λ xs. c.in-Some.place < length xs) c.deref.ensures.value c.in-Some.ensures.there in
    subst (λ x. IsOwn x block.task c.in-Some.place) c.certificate-certificate.ensures.certificate
    (own_is held block cert.blocks.items refl c.in-Some.place first c.index.result.now low c.index.ensures (c.is_tried.ensures.0 c.if-not-is_tried.false))

pub returns-clause-fits : goal.returns-clause-fits
returns-clause-fits c = simp (to_z-of_z w128 _ c.ranges.times) at c.other_there.ensures.fits

pub returns-clause-kept : goal.returns-clause-kept
returns-clause-kept c = simp (to_z-of_z w128 _ c.ranges.times) at c.other_there.ensures.kept

pub returns-clause-fault : goal.returns-clause-fault
returns-clause-fault c = simp (to_z-of_z w128 _ c.ranges.times) at c.other_there.ensures.fault

pub returns-clause-valid : goal.returns-clause-valid
returns-clause-valid c = simp (to_z-of_z w128 _ c.ranges.times) at c.other_there.ensures.valid

pub returns-clause-invalid : goal.returns-clause-invalid
returns-clause-invalid c = simp (to_z-of_z w128 _ c.ranges.times) at c.other_there.ensures.invalid

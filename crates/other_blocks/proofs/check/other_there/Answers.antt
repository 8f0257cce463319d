use Rattle.std.proofs.Common.{◌≡◌, sym, subst, Some, arith}
use Rattle.std.specs.Prelude.{unsigned_abs}
use Rattle.std.specs.Int.{w128}
use Rattle.std.proofs.lemmas.Int.{to_z-of_z}
use Rattle.std.proofs.lemmas.List.{length-map}
use Rattle.cost_free.specs.Read.{task_of, kind_of}
use Rattle.share_normal.specs.Program.{Kept}
use Rattle.annot_types.specs.Certificate.{Certificate}
use Rattle.annot_types.specs.Held.{before}
use Rattle.annot_types.specs.Holds.{budget_of}
use Rattle.annot_types.specs.Read as a
use Rattle.rules_walk.specs.Remembers.{Remembers}
use Rattle.rules_plan.specs.Read.{program_in, ArePlansOf}
use Rattle.cert_check.specs.Fault.{TooLarge}
use Rattle.cert_check.specs.Finds.{AreWithin}
use Rattle.cert_check.specs.Laws.{IsSmall}
use Rattle.cert_check.specs.Read.{fault_of, OfFault}
use Rattle.cert_check.proofs.Telling.{of_fault}
use Rattle.other_blocks.specs.Other.{IsOwn, OtherFinds}
use Rattle.other_blocks.specs.Laws.{IsOther}
use Rattle.other_blocks.proofs.Over.{too_large_is}
use Rattle.other_blocks.proofs.check.other_there.Goals as goal

pub tables-requires-clause-small : goal.tables-requires-clause-small
tables-requires-clause-small c =
    subst (λ (x : Kept × Certificate). IsSmall (program_in x.0) x.1) (λ i. (sym c.program-program.ensures i, sym c.certificate-certificate.ensures.certificate i))
    c.certificate-certificate.ensures.faultless.small

pub tables-requires-clause-low : goal.tables-requires-clause-low
tables-requires-clause-low c =
    let cert = c.certificate-certificate.result.now in
    let own : IsOwn (a.certificate_of cert) (task_of c.args.block.task) c.args.place =
    subst (λ x. IsOwn x (task_of c.args.block.task) c.args.place) (sym c.certificate-certificate.ensures.certificate) c.requires.own in
    let low = own.there in
    let same = length-map cert.blocks.items a.block_of in
    omega (arith, low, same)

pub returns-in-Err-clause-fault : goal.returns-in-Err-clause-fault
returns-in-Err-clause-fault c =
    let kept = c.program-program.result.now in
    let held = a.certificate_of c.certificate-certificate.result.now in
    let block = a.block_of c.args.block in
    let t = unsigned_abs c.args.times in
    let P = program_in kept in
    let own : IsOwn held block.task c.args.place = subst (λ x. IsOwn x block.task c.args.place) (sym c.certificate-certificate.ensures.certificate) c.requires.own in
    subst (λ (x : Kept × Certificate). OfFault (fault_of c.in-Err.fault) (OtherFinds (program_in x.0) x.1 t block)) (λ i. (c.program-program.ensures i, c.certificate-certificate.ensures.certificate i))
    (of_fault (fault_of c.in-Err.fault) (λ found. (found ≡ Some (TooLarge block.task)) × (AreWithin P held block.task → ⊥)) (OtherFinds P held t block)
    (λ x h. subst (OtherFinds P held t block) (sym h.0) (too_large_is P held t block c.args.place own c.requires.solved h.1)) c.in-Err.ensures.large)

pub other_by-requires-clause-plans : goal.other_by-requires-clause-plans
other_by-requires-clause-plans c =
    subst (λ (x : Kept × Certificate). ArePlansOf (program_in x.0) c.args.block.task.group (budget_of x.1.degree (kind_of c.args.block.task.kind)) c.in-Ok-plans_for.plans)
    (λ i. (c.program-program.ensures i, c.certificate-certificate.ensures.certificate i)) c.in-Ok-plans_for.ensures.plans

pub other_by-requires-clause-remembers : goal.other_by-requires-clause-remembers
other_by-requires-clause-remembers c =
    subst (λ (x : Kept × Certificate). Remembers (program_in x.0) x.1.degree (before x.1 c.args.place) c.in-Ok.earlier)
    (λ i. (c.program-program.ensures i, c.certificate-certificate.ensures.certificate i)) c.in-Ok.ensures

pub returns-clause-fits : goal.returns-clause-fits
returns-clause-fits c = simp (to_z-of_z w128 _ c.ranges.times) at c.other_by.ensures.fits

pub returns-clause-kept : goal.returns-clause-kept
returns-clause-kept c = simp (to_z-of_z w128 _ c.ranges.times) at c.other_by.ensures.kept

pub returns-clause-fault : goal.returns-clause-fault
returns-clause-fault c = simp (to_z-of_z w128 _ c.ranges.times) at c.other_by.ensures.fault

pub returns-in-Err-clause-invalid : goal.returns-in-Err-clause-invalid
returns-in-Err-clause-invalid c =
    let held = a.certificate_of c.certificate-certificate.result.now in
    let block = a.block_of c.args.block in
    let t = unsigned_abs c.args.times in
    subst (λ (x : Kept × Certificate). OfFault (fault_of c.in-Err.fault) (λ _. IsOther (program_in x.0) x.1 t block → ⊥)) (λ i. (c.program-program.ensures i, c.certificate-certificate.ensures.certificate i))
    (of_fault (fault_of c.in-Err.fault) (λ found. (found ≡ Some (TooLarge block.task)) × (AreWithin (program_in c.program-program.result.now) held block.task → ⊥))
    (λ _. IsOther (program_in c.program-program.result.now) held t block → ⊥) (λ x h other. h.1 other.within) c.in-Err.ensures.large)

pub returns-clause-valid : goal.returns-clause-valid
returns-clause-valid c = simp (to_z-of_z w128 _ c.ranges.times) at c.other_by.ensures.valid

pub returns-clause-invalid : goal.returns-clause-invalid
returns-clause-invalid c = simp (to_z-of_z w128 _ c.ranges.times) at c.other_by.ensures.invalid

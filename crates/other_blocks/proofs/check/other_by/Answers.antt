use Rattle.std.proofs.Common.{◌≡◌, ◌*◌, ap, sym, ◌∙◌, subst, None, pos, inl, FitsSigned, rules, arith}
use Rattle.std.specs.Prelude.{unsigned_abs}
use Rattle.std.specs.Int.{w128}
use Rattle.std.proofs.lemmas.Int.{to_z-of_z}
use Rattle.std.proofs.lemmas.List.{length-map}
use Rattle.cost_free.specs.Read.{kind_of}
use Rattle.share_normal.specs.Program.{Kept}
use Rattle.annot_types.specs.Certificate.{Certificate}
use Rattle.annot_types.specs.Held.{before, scale_for}
use Rattle.annot_types.specs.Holds.{budget_of}
use Rattle.annot_types.specs.Read as a
use Rattle.rules_walk.specs.Remembers.{Remembers}
use Rattle.rules_plan.specs.Read.{program_in, ArePlansOf}
use Rattle.cert_check.specs.Laws.{IsFaultless}
use Rattle.cert_check.specs.Read.{fault_of, OfFault}
use Rattle.cert_check.proofs.Proper.{kept_is_proper}
use Rattle.cert_check.proofs.Telling.{of_fault}
use Rattle.other_blocks.specs.Other.{IsOwn, RaisedFinds, OtherFinds}
use Rattle.other_blocks.specs.Laws.{IsOther}
use Rattle.other_blocks.proofs.Exactly.{others_exactly, other_refuses}
use Rattle.other_blocks.proofs.Keeping.{abs_positive, scale_positive, is_over}
use Rattle.other_blocks.proofs.Over.{here_is, tried_is}
use Rattle.other_blocks.proofs.check.other_by.Goals as goal

pub check_raised-requires-clause-place : goal.check_raised-requires-clause-place
check_raised-requires-clause-place c =
    let kept = c.program-program.result.now in
    let cert = c.certificate-certificate.result.now in
    let held = a.certificate_of cert in
    let block = a.block_of c.args.block in
    let own : IsOwn held block.task c.args.place = subst (λ x. IsOwn x block.task c.args.place) (sym c.certificate-certificate.ensures.certificate) c.requires.own in
    here_is (program_in kept) held 1 block c.args.place own

pub check_raised-requires-clause-there : goal.check_raised-requires-clause-there
check_raised-requires-clause-there c =
    let cert = c.certificate-certificate.result.now in
    let held = a.certificate_of cert in
    let block = a.block_of c.args.block in
    let own : IsOwn held block.task c.args.place = subst (λ x. IsOwn x block.task c.args.place) (sym c.certificate-certificate.ensures.certificate) c.requires.own in
    let low = own.there in
    let same = length-map cert.blocks.items a.block_of in
    omega (arith, low, same)

pub check_raised-requires-clause-remembers : goal.check_raised-requires-clause-remembers
check_raised-requires-clause-remembers c =
    subst (λ (x : Kept × Certificate). Remembers (program_in x.0) x.1.degree (before x.1 c.args.place) c.args.earlier.now)
    (λ i. (sym c.program-program.ensures i, sym c.certificate-certificate.ensures.certificate i)) c.requires.remembers

pub check_raised-requires-clause-plans : goal.check_raised-requires-clause-plans
check_raised-requires-clause-plans c =
    subst (λ (x : Kept × Certificate). ArePlansOf (program_in x.0) c.args.block.task.group (budget_of x.1.degree (kind_of c.args.block.task.kind)) c.args.plans.now)
    (λ i. (sym c.program-program.ensures i, sym c.certificate-certificate.ensures.certificate i)) c.requires.plans

pub returns-in-Err-clause-fault : goal.returns-in-Err-clause-fault
returns-in-Err-clause-fault c =
    let kept = c.program-program.result.now in
    let cert = c.certificate-certificate.result.now in
    let held = a.certificate_of cert in
    let block = a.block_of c.args.block in
    let t = unsigned_abs c.args.times in
    let times : c.unsigned_abs-times.result ≡ t = simp (to_z-of_z w128 _ c.ranges.times) at c.unsigned_abs-times.ensures.value in
    let own : IsOwn held block.task c.args.place = subst (λ x. IsOwn x block.task c.args.place) (sym c.certificate-certificate.ensures.certificate) c.requires.own in
    subst (λ (x : Kept × Certificate). OfFault (fault_of c.in-Err.fault) (OtherFinds (program_in x.0) x.1 t block)) (λ i. (c.program-program.ensures i, c.certificate-certificate.ensures.certificate i))
    (of_fault (fault_of c.in-Err.fault) (RaisedFinds (program_in kept) held t block) (OtherFinds (program_in kept) held t block) (λ x h. inl (tried_is (program_in kept) held t block c.args.place own, h))
    (subst (λ n. OfFault (fault_of c.in-Err.fault) (RaisedFinds (program_in kept) held n block)) times c.in-Err.ensures.tells))

pub keep-requires-clause-positive : goal.keep-requires-clause-positive
keep-requires-clause-positive c =
    let kept = c.program-program.result.now in
    let cert = c.certificate-certificate.result.now in
    let held = a.certificate_of cert in
    let block = a.block_of c.args.block in
    let t = unsigned_abs c.args.times in
    let times : c.unsigned_abs-times.result ≡ t = simp (to_z-of_z w128 _ c.ranges.times) at c.unsigned_abs-times.ensures.value in
    let valid : IsFaultless (program_in kept) held =
    subst (λ (x : Kept × Certificate). IsFaultless (program_in x.0) x.1) (λ i. (sym c.program-program.ensures i, sym c.certificate-certificate.ensures.certificate i))
    c.certificate-certificate.ensures.faultless in
    let is : c.in-Ok.scale ≡ pos (scale_for held (kind_of c.args.block.task.kind) * t) = c.in-Ok.ensures.scale ∙ ap (λ n. pos (scale_for held (kind_of c.args.block.task.kind) * n)) times in
    let fits : FitsSigned w128 c.in-Ok.scale = search rules in
    rw (to_z-of_z w128 _ fits) (scale_positive kept held valid c.args.times c.requires.positive block c.requires.cost.0 c.requires.cost.1 c.in-Ok.scale is)

pub keep-requires-clause-over : goal.keep-requires-clause-over
keep-requires-clause-over c =
    let kept = c.program-program.result.now in
    let cert = c.certificate-certificate.result.now in
    let held = a.certificate_of cert in
    let block = a.block_of c.args.block in
    let t = unsigned_abs c.args.times in
    let times : c.unsigned_abs-times.result ≡ t = simp (to_z-of_z w128 _ c.ranges.times) at c.unsigned_abs-times.ensures.value in
    let own : IsOwn held block.task c.args.place = subst (λ x. IsOwn x block.task c.args.place) (sym c.certificate-certificate.ensures.certificate) c.requires.own in
    let valid : IsFaultless (program_in kept) held =
    subst (λ (x : Kept × Certificate). IsFaultless (program_in x.0) x.1) (λ i. (sym c.program-program.ensures i, sym c.certificate-certificate.ensures.certificate i))
    c.certificate-certificate.ensures.faultless in
    let is : c.in-Ok.scale ≡ pos (scale_for held (kind_of c.args.block.task.kind) * t) = c.in-Ok.ensures.scale ∙ ap (λ n. pos (scale_for held (kind_of c.args.block.task.kind) * n)) times in
    let fits : FitsSigned w128 c.in-Ok.scale = search rules in
    let P = program_in kept in
    let proper = kept_is_proper kept c.source-source.ensures.typed c.source-source.ensures.numbers c.functions-functions.ensures.norm c.groups-groups.ensures.grouping in
    rw (to_z-of_z w128 _ fits) (is_over kept held valid c.args.times c.requires.positive block c.requires.cost.0 c.requires.cost.1 c.in-Ok.scale is proper c.requires.solved
    (inl (tried_is P held t block c.args.place own, subst (λ n. RaisedFinds P held n block None) times c.in-Ok.ensures.tells)))

pub returns-clause-fits : goal.returns-clause-fits
returns-clause-fits c =
    let kept = c.program-program.result.now in
    let cert = c.certificate-certificate.result.now in
    let held = a.certificate_of cert in
    let block = a.block_of c.args.block in
    let t = unsigned_abs c.args.times in
    let times : c.unsigned_abs-times.result ≡ t = simp (to_z-of_z w128 _ c.ranges.times) at c.unsigned_abs-times.ensures.value in
    let own : IsOwn held block.task c.args.place = subst (λ x. IsOwn x block.task c.args.place) (sym c.certificate-certificate.ensures.certificate) c.requires.own in
    subst (λ (x : Kept × Certificate). OtherFinds (program_in x.0) x.1 t block None) (λ i. (c.program-program.ensures i, c.certificate-certificate.ensures.certificate i))
    (inl (tried_is (program_in kept) held t block c.args.place own, subst (λ n. RaisedFinds (program_in kept) held n block None) times c.in-Ok.ensures.tells))

pub returns-clause-valid : goal.returns-clause-valid
returns-clause-valid c =
    let kept = c.program-program.result.now in
    let cert = c.certificate-certificate.result.now in
    let held = a.certificate_of cert in
    let block = a.block_of c.args.block in
    let t = unsigned_abs c.args.times in
    let P = program_in kept in
    let times : c.unsigned_abs-times.result ≡ t = simp (to_z-of_z w128 _ c.ranges.times) at c.unsigned_abs-times.ensures.value in
    let own : IsOwn held block.task c.args.place = subst (λ x. IsOwn x block.task c.args.place) (sym c.certificate-certificate.ensures.certificate) c.requires.own in
    let proper = kept_is_proper kept c.source-source.ensures.typed c.source-source.ensures.numbers c.functions-functions.ensures.norm c.groups-groups.ensures.grouping in
    subst (λ (x : Kept × Certificate). IsOther (program_in x.0) x.1 t block) (λ i. (c.program-program.ensures i, c.certificate-certificate.ensures.certificate i))
    ((others_exactly P proper held t (abs_positive c.args.times c.requires.positive) block c.requires.cost.0 c.requires.cost.1 c.requires.solved).0
    (inl (tried_is P held t block c.args.place own, subst (λ n. RaisedFinds P held n block None) times c.in-Ok.ensures.tells)))

pub returns-in-Err-clause-invalid : goal.returns-in-Err-clause-invalid
returns-in-Err-clause-invalid c =
    let kept = c.program-program.result.now in
    let cert = c.certificate-certificate.result.now in
    let held = a.certificate_of cert in
    let block = a.block_of c.args.block in
    let t = unsigned_abs c.args.times in
    let P = program_in kept in
    let times : c.unsigned_abs-times.result ≡ t = simp (to_z-of_z w128 _ c.ranges.times) at c.unsigned_abs-times.ensures.value in
    let own : IsOwn held block.task c.args.place = subst (λ x. IsOwn x block.task c.args.place) (sym c.certificate-certificate.ensures.certificate) c.requires.own in
    let proper = kept_is_proper kept c.source-source.ensures.typed c.source-source.ensures.numbers c.functions-functions.ensures.norm c.groups-groups.ensures.grouping in
    subst (λ (x : Kept × Certificate). OfFault (fault_of c.in-Err.fault) (λ _. IsOther (program_in x.0) x.1 t block → ⊥)) (λ i. (c.program-program.ensures i, c.certificate-certificate.ensures.certificate i))
    (other_refuses P proper held t (abs_positive c.args.times c.requires.positive) block c.requires.cost.0 c.requires.cost.1 c.requires.solved (fault_of c.in-Err.fault)
    (of_fault (fault_of c.in-Err.fault) (RaisedFinds P held t block) (OtherFinds P held t block) (λ x h. inl (tried_is P held t block c.args.place own, h))
    (subst (λ n. OfFault (fault_of c.in-Err.fault) (RaisedFinds P held n block)) times c.in-Err.ensures.tells)))

use Rattle.std.proofs.Common.{sym, subst, length}
use Rattle.annot_types.specs.Held.{Held}
use Rattle.annot_types.specs.System.{Valid}
use Rattle.infer_spec.specs.Good.{AllRefuted}
use Rattle.rules_plan.specs.Read.{program_in}
use Rattle.cert_check.specs.Laws.{IsFaultless}
use Rattle.infer_spec.specs.Verifying.{TooLarge}
use Rattle.bound_infer.specs.Cleared.{ClearBefore}
use Rattle.bound_infer.specs.Inferred.{SystemsAreSmall}
use Rattle.bound_infer.proofs.Blocked.{is_verified, is_valid, all_refuted}
use Rattle.bound_infer.proofs.verification.verify_checked.Goals as goal

pub keep-requires-clause-valid : goal.keep-requires-clause-valid
keep-requires-clause-valid c =
    let P = program_in c.args.program.now in
    let x = c.args.checked.certificate in
    let clear = subst (λ x. ClearBefore P x (length x.blocks)) c.certificate.ensures.certificate c.in-Ok.ensures.clear in
    subst (λ k. Valid (program_in k) x) (sym c.requires.program) (is_valid P x clear (subst (λ k. Held (program_in k) x) c.requires.program c.certificate.ensures.held))

pub keep-requires-clause-refuted : goal.keep-requires-clause-refuted
keep-requires-clause-refuted c =
    let P = program_in c.args.program.now in
    let x = c.args.checked.certificate in
    let clear = subst (λ x. ClearBefore P x (length x.blocks)) c.certificate.ensures.certificate c.in-Ok.ensures.clear in
    subst (λ k. AllRefuted (program_in k) x) (sym c.requires.program)
    (all_refuted P x clear c.vectors_refute.ensures c.requires.ordered (subst (λ k. Held (program_in k) x) c.requires.program c.certificate.ensures.held))

pub keep-requires-clause-small : goal.keep-requires-clause-small
keep-requires-clause-small c =
    let P = program_in c.args.program.now in
    let x = c.args.checked.certificate in
    let clear = subst (λ x. ClearBefore P x (length x.blocks)) c.certificate.ensures.certificate c.in-Ok.ensures.clear in
    let faultless = subst (λ k. IsFaultless (program_in k) x) c.requires.program c.certificate.ensures.faultless in
    subst (λ k. SystemsAreSmall (program_in k) x) (sym c.requires.program) (λ place what h. (is_verified P x clear faultless).clear place (TooLarge what) h)

pub returns-in-Ok-clause-passes : goal.returns-in-Ok-clause-passes
returns-in-Ok-clause-passes c =
    let P = program_in c.args.program.now in
    let x = c.args.checked.certificate in
    is_verified P x (subst (λ x. ClearBefore P x (length x.blocks)) c.certificate.ensures.certificate c.in-Ok.ensures.clear)
    (subst (λ k. IsFaultless (program_in k) x) c.requires.program c.certificate.ensures.faultless)

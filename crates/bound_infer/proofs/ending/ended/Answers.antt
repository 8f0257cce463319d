use Rattle.std.proofs.Common.{true, sym, ◌∙◌, subst, Some}
use Rattle.annot_types.specs.Held.{Held}
use Rattle.cert_check.specs.Finds.{FirstFault}
use Rattle.cert_check.specs.Laws.{IsSmall}
use Rattle.cert_check.specs.Read.{fault_of}
use Rattle.infer_spec.specs.Good.{AllRefuted}
use Rattle.infer_spec.specs.States.{certificate_of}
use Rattle.rules_plan.specs.Read.{program_in}
use Rattle.cert_check.specs.Checked.{Checking}
use Rattle.bound_infer.specs.Inferred.{SystemsAreSmall}
use Rattle.bound_infer.specs.Keeping.{state_of}
use Rattle.bound_infer.proofs.Whole.{found_there}
use Rattle.bound_infer.proofs.ending.ended.Goals as goal

pub keep-requires-clause-refuted : goal.keep-requires-clause-refuted
keep-requires-clause-refuted c =
    subst (λ (x : Checking). AllRefuted (program_in x.program) x.certificate) (sym (c.in-Ok.ensures.kept ∙ (λ i. record { program = c.args.program.now; certificate = c.certificate.ensures i }))) c.requires.refuted

pub keep-requires-clause-small : goal.keep-requires-clause-small
keep-requires-clause-small c =
    subst (λ (x : Checking). SystemsAreSmall (program_in x.program) x.certificate) (sym (c.in-Ok.ensures.kept ∙ (λ i. record { program = c.args.program.now; certificate = c.certificate.ensures i }))) c.requires.systems

pub check_fault-requires : goal.check_fault-requires
check_fault-requires c = λ fault e.
    let P = program_in c.args.program.now in
    let held = certificate_of c.args.d true (state_of c.args.run) in
    let valid = c.requires.valid in
    c.held_leaves_alone.ensures P c.requires.proper held valid.held c.requires.small fault
    (subst (λ x. FirstFault P x (Some fault)) c.certificate.ensures (found_there _ (fault_of c.in-Err.fault) fault e c.in-Err.ensures.fault))

pub check_held-requires-clause-held : goal.check_held-requires-clause-held
check_held-requires-clause-held c = subst (Held (program_in c.args.program.now)) (sym c.certificate.ensures) c.requires.valid.held

pub check_held-requires-clause-small : goal.check_held-requires-clause-small
check_held-requires-clause-small c = subst (IsSmall (program_in c.args.program.now)) (sym c.certificate.ensures) c.requires.small

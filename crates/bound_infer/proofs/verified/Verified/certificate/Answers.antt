use Rattle.std.proofs.Common.{ap, subst, ◌∙◌}
use Rattle.annot_types.specs.System.{Valid}
use Rattle.cert_check.specs.Laws.{IsFaultless}
use Rattle.infer_spec.specs.Good.{AllRefuted}
use Rattle.infer_systems_laws.specs.Analysed.{generator_of}
use Rattle.infer_systems_laws.specs.Tried.{IsOrdered}
use Rattle.infer_systems_laws.proofs.Proper.{ordered_are_proper}
use Rattle.rules_plan.specs.Read.{program_in}
use Rattle.bound_infer.specs.Inferred.{SystemsAreSmall}
use Rattle.bound_infer.proofs.NeverNo.{never_no}
use Rattle.bound_infer.proofs.Again.{verifies_again}
use Rattle.bound_infer.proofs.verified.Verified.certificate.Goals as goal

pub returns-clause-refuted : goal.returns-clause-refuted
returns-clause-refuted c = subst (λ v. AllRefuted (program_in v.program) v.certificate) c.self.view_is c.self.invariant.1

pub returns-clause-again : goal.returns-clause-again
returns-clause-again c =
    let P = program_in c.args.self.now.program in
    let cert = c.args.self.now.certificate in
    let valid = subst (λ v. Valid (program_in v.program) v.certificate) c.self.view_is c.self.invariant.0 in
    let small = subst (λ v. SystemsAreSmall (program_in v.program) v.certificate) c.self.view_is c.self.invariant.2 in
    let faultless = subst (λ v. IsFaultless (program_in v.program) v.certificate) c.self.view_is c.certificate.ensures.faultless in
    let ordered = subst (λ k. IsOrdered (program_in k)) (c.program.ensures ∙ ap (λ v. v.program) c.self.view_is) c.ordered.ensures in
    verifies_again P cert (c.one_first_fault.ensures P cert) (c.none_unrefuted.ensures never_no P (generator_of P cert.degree) cert valid) small
    ((c.faultless_exactly.ensures P (ordered_are_proper P ordered) cert).1 faultless)

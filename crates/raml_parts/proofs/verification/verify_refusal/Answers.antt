use Rattle.std.proofs.Common.{subst}
use Rattle.rules_plan.specs.Read.{program_in}
use Rattle.bound_infer.specs.Inferred.{VerifyCause}
use Rattle.refusals.specs.Refusals.{names_in}
use Rattle.raml_parts.proofs.Refusing.{check_refuses, vector_refuses, task_refuses, place_refuses}
use Rattle.raml_parts.proofs.verification.verify_refusal.Goals as goal

pub returns-in-Cert : goal.returns-in-Cert
returns-in-Cert c cert cause =
    let N = program_in c.args.program.now in
    check_refuses (names_in c.args.program.now) N cert c.in-Cert.fault (subst (VerifyCause N cert) c.in-Cert.is cause) c.check_refusal.result c.check_refusal.ensures

pub returns-in-NotRefuted : goal.returns-in-NotRefuted
returns-in-NotRefuted c cert cause =
    let N = program_in c.args.program.now in
    let names = names_in c.args.program.now in
    vector_refuses names N cert c.in-NotRefuted.block (subst (VerifyCause N cert) c.in-NotRefuted.is cause) c.told.result (c.told.ensures names c.not_refuted_line-line.ensures)

pub returns-in-TooLarge : goal.returns-in-TooLarge
returns-in-TooLarge c cert cause =
    let N = program_in c.args.program.now in
    task_refuses (names_in c.args.program.now) N cert c.in-TooLarge.task c.in-TooLarge.what (subst (VerifyCause N cert) c.in-TooLarge.is cause) c.too_large.result c.too_large.ensures

pub returns-in-Leaves : goal.returns-in-Leaves
returns-in-Leaves c cert cause =
    let N = program_in c.args.program.now in
    place_refuses (names_in c.args.program.now) N cert c.in-Leaves.at (subst (VerifyCause N cert) c.in-Leaves.is cause) c.overflow.result c.overflow.ensures

use Rattle.std.proofs.Common.{ap, sym, subst, string_bytes}
use Rattle.share_normal.specs.Program.{Kept, source_in}
use Rattle.rules_plan.specs.Read.{program_in}
use Rattle.analysis_report.specs.Powers.{ArePowerLines}
use Rattle.refusals.specs.Ending.{ending_of}
use Rattle.raml_top.proofs.Comparing.{powers_given, powers_denied}
use Rattle.raml_top.proofs.commands.power_report.Goals as goal

pub returns-in-Ok : goal.returns-in-Ok
returns-in-Ok c =
    let cert = c.args.verified.now.certificate in
    let told = subst (λ (k : Kept). ArePowerLines (source_in k) (program_in k) cert (string_bytes c.in-Ok.text)) c.requires c.in-Ok.ensures.lines in
    powers_given c.args.program.now cert c.done.result (ap ending_of c.done.ensures.status)
    (subst (ArePowerLines (source_in c.args.program.now) (program_in c.args.program.now) cert) (sym c.done.ensures.text) told)

pub returns-in-Err : goal.returns-in-Err
returns-in-Err c =
    powers_denied c.args.program.now c.args.verified.now.program c.args.verified.now.certificate c.requires c.in-Err.fault c.in-Err.ensures.leaves c.power_refusal.result c.power_refusal.ensures

use Rattle.std.proofs.Common.{ap, sym, subst, string_bytes}
use Rattle.share_normal.specs.Program.{Kept, source_in}
use Rattle.rules_plan.specs.Read.{program_in}
use Rattle.analysis_report.specs.Lines.{AreLines}
use Rattle.refusals.specs.Ending.{Done, ending_of}
use Rattle.raml_top.proofs.commands.line_report.Goals as goal

pub returns-in-Ok : goal.returns-in-Ok
returns-in-Ok c =
    let cert = c.args.verified.now.certificate in
    let told = subst (λ (k : Kept). AreLines (source_in k) (program_in k) cert (string_bytes c.in-Ok.text)) c.requires c.in-Ok.ensures in
    (Done, ap ending_of c.done.ensures.status, subst (AreLines (source_in c.args.program.now) (program_in c.args.program.now) cert) (sym c.done.ensures.text) told)

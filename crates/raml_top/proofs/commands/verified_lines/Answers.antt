use Rattle.std.proofs.Common.{subst}
use Rattle.share_normal.specs.Program.{source_in}
use Rattle.rules_plan.specs.Read.{program_in}
use Rattle.annot_types.specs.Read.{certificate_of}
use Rattle.refusals.specs.Refusals.{names_in}
use Rattle.raml_promise.specs.Outside.{Sound}
use Rattle.raml_promise.specs.Analysis.{CheckRefuses, IsChecked, IsProved}
use Rattle.raml_promise.specs.Promise.{PrintsLines}
use Rattle.raml_parts.specs.Parts.{Gives}
use Rattle.raml_parts.proofs.Stepping.{step_refused, step_goes}
use Rattle.raml_top.proofs.commands.verified_lines.Goals as goal

pub returns-in-Ok : goal.returns-in-Ok
returns-in-Ok c =
    let P = source_in c.args.program.now in
    let N = program_in c.args.program.now in
    let cert = certificate_of c.args.certificate in
    step_goes (names_in c.args.program.now) (CheckRefuses N cert) (λ (done : Unit {0}). IsChecked Sound P N cert) (λ done. PrintsLines Sound P N cert) tt
    (record { verified = c.in-Ok.ensures.ok; proved = subst (IsProved P N) c.in-Ok.ensures.same c.in-Ok.ensures.proved }) c.line_report.result
    (subst (λ k. Gives (PrintsLines Sound P N k) c.line_report.result) c.in-Ok.ensures.same c.line_report.ensures)

pub returns-in-Err : goal.returns-in-Err
returns-in-Err c =
    let P = source_in c.args.program.now in
    let N = program_in c.args.program.now in
    let cert = certificate_of c.args.certificate in
    step_refused (names_in c.args.program.now) (CheckRefuses N cert) (λ (done : Unit {0}). IsChecked Sound P N cert) (λ done. PrintsLines Sound P N cert) c.in-Err.refusal c.in-Err.ensures.err

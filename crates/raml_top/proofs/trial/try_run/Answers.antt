use Rattle.raml_syntax.specs.Read.{program_of}
use Rattle.rules_plan.specs.Read.{program_in}
use Rattle.report_text.specs.Trial.{functions_line}
use Rattle.report_text.specs.Claims.{lines_text}
use Rattle.analysis_report.specs.Lines.{lines_of}
use Rattle.std.proofs.Common.{◌++◌, ◌∙◌, sym, ap}
use Rattle.raml_top.proofs.Reporting.{front_gives, with_front}
use Rattle.raml_top.proofs.trial.try_run.Goals as goal

pub returns-in-Ok-execute : goal.returns-in-Ok-execute
returns-in-Ok-execute c f vs same h =
    let P = program_of c.args.typed.now in
    let N = program_in c.args.verified.now.program in
    let cert = c.args.verified.now.certificate in
    let front = functions_line c.args.count ++ lines_text P (lines_of N cert f.0) in
    let is = c.in-Ok.ensures ∙ ap (λ k. functions_line c.args.count ++ lines_text P (lines_of N cert k)) (sym same) in
    front_gives P c.args.place.0 c.args.args.heap.cells c.args.args.words.items (record { steps = 10000000; cells = 1048576 }) c.in-Ok-execute.report c.in-Ok-execute.ensures.ok c.behind.result front
    (with_front c.behind.result front _ c.in-Ok-execute.report is c.behind.ensures.text) c.behind.ensures.status c.behind.ensures.err f vs same h

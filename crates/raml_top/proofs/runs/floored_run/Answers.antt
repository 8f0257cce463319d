use Rattle.std.proofs.Common.{[], subst}
use Rattle.raml_syntax.specs.Read.{program_of}
use Rattle.analysis_report.specs.Told.{floors_of}
use Rattle.raml_promise.specs.Outside.{Sound}
use Rattle.raml_promise.specs.Call.{Runs}
use Rattle.raml_promise.specs.Promise.{bound_lines}
use Rattle.raml_parts.specs.Parts.{Gives}
use Rattle.raml_top.proofs.Reporting.{behind_gives}
use Rattle.raml_top.proofs.runs.floored_run.Goals as goal

pub returns-in-Ok : goal.returns-in-Ok
returns-in-Ok c f vs is =
    let P = program_of c.args.typed.now in
    let call = c.args.call in
    subst (λ cells. Gives (Runs Sound P f vs (record { steps = c.args.steps; cells = cells }) [] (bound_lines (floors_of c.args.floors))) c.with_bounds.result) c.cells_or.ensures.is
    (behind_gives P call.place.0 call.args.heap.cells call.args.words.items (record { steps = c.args.steps; cells = c.cells_or.result }) c.in-Ok.report c.in-Ok.ensures.ok c.with_bounds.result (bound_lines (floors_of c.args.floors))
    c.with_bounds.ensures.text c.with_bounds.ensures.status c.with_bounds.ensures.err f vs is.place is.arguments)

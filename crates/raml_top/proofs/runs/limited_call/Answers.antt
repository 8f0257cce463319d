use Rattle.std.proofs.Common.{[], subst}
use Rattle.raml_syntax.specs.Read.{program_of}
use Rattle.raml_promise.specs.Outside.{Sound}
use Rattle.raml_promise.specs.Call.{Runs}
use Rattle.raml_parts.specs.Parts.{Gives}
use Rattle.raml_top.proofs.Reporting.{ran_gives}
use Rattle.raml_top.proofs.runs.limited_call.Goals as goal

pub returns : goal.returns
returns c f vs is =
    let P = program_of c.args.typed.now in
    let call = c.args.call in
    subst (λ cells. Gives (Runs Sound P f vs (record { steps = c.args.steps; cells = cells }) [] []) c.execute.result) c.cells_or.ensures.is
    (ran_gives P call.place.0 call.args.heap.cells call.args.words.items (record { steps = c.args.steps; cells = c.cells_or.result }) c.execute.result c.execute.ensures.ok c.execute.ensures.err f vs is.place is.arguments)

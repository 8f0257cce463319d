use Rattle.std.proofs.Common.{[], None, subst, arith}
use Rattle.std.specs.List.{All}
use Rattle.raml_syntax.specs.Tree.{Function}
use Rattle.raml_syntax.specs.Types.{Typed}
use Rattle.raml_syntax.specs.Node.{AllNodes, NumberFits}
use Rattle.raml_syntax.specs.Read.{program_of}
use Rattle.price_file.specs.Read.{prices_of}
use Rattle.price_file.specs.Applied.{applied_function}
use Rattle.raml_promise.specs.Outside.{Sound}
use Rattle.raml_promise.specs.Call.{Runs, Limits, cells_or}
use Rattle.raml_promise.specs.Prices.{Spends}
use Rattle.raml_parts.specs.Parts.{Gives}
use Rattle.raml_parts.proofs.Stepping.{gives_map}
use Rattle.raml_top.proofs.Pricing.{spent, applied_call}
use Rattle.raml_top.proofs.prices.call_under.Goals as goal

pub limited_call-requires-clause-few_nodes : goal.limited_call-requires-clause-few_nodes
limited_call-requires-clause-few_nodes c =
    let few = c.requires.ready.few_nodes in
    let twice = c.in_ok-applied.ensures.nodes in
    omega (arith, few, twice)

pub limited_call-requires-clause-call : goal.limited_call-requires-clause-call
limited_call-requires-clause-call c =
    let is = c.requires.call in
    let prices = prices_of c.args.prices.now in
    ((is.0.0, applied_function prices is.0.1), is.1, applied_call prices (program_of c.args.typed.now) (program_of c.in_ok-applied.applied) c.in_ok-applied.ensures.applied c.args.call is.0 is.1 is.2)

pub returns : goal.returns
returns c f vs is =
    let P = program_of c.args.typed.now in
    let prices = prices_of c.args.prices.now in
    let made = program_of c.in_ok-applied.applied in
    let same = c.in_ok-applied.ensures.applied in
    let limits : Limits = record { steps = c.args.steps; cells = cells_or c.args.cells None } in
    let ran = subst (λ Q. Gives (Runs Sound Q (f.0, applied_function prices f.1) vs limits [] []) c.limited_call.result) same
    (c.limited_call.ensures (f.0, applied_function prices f.1) vs (applied_call prices P made same c.args.call f vs is)) in
    let typed = subst Typed same c.program-program.ensures.typed in
    let numbers = subst (λ Q. All (λ (g : Function). AllNodes NumberFits g.body) Q) same (c.in_ok-applied.ensures.limits c.requires.ready.limits).numbers in
    gives_map _ (Spends Sound prices P f vs limits)
    (λ a runs. record { runs = runs; costs = spent prices P c.machine_is_linked.ensures typed numbers f vs is.arguments.there is.arguments.types }) c.limited_call.result ran

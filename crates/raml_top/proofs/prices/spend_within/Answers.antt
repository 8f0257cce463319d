use Rattle.std.proofs.Common.{None}
use Rattle.raml_syntax.specs.Read.{program_of}
use Rattle.price_file.specs.Read.{prices_of}
use Rattle.raml_promise.specs.Outside.{Sound, store_of}
use Rattle.raml_promise.specs.Call.{OfCall, cells_or}
use Rattle.raml_promise.specs.Prices.{Spends}
use Rattle.raml_parts.proofs.Stepping.{prices_refusal}
use Rattle.raml_parts.proofs.Reading.{earlier_still, prices_then}
use Rattle.raml_top.proofs.prices.spend_within.Goals as goal

pub returns-in-Ok-clause-gives : goal.returns-in-Ok-clause-gives
returns-in-Ok-clause-gives g c before earlier =
    let P = program_of c.args.typed.now in
    prices_then (g.S.Store.holds c.args.store.now) (g.S.Store.holds c.read_prices.new.store) before (g.S.Store.faults c.read_prices.new.store) (g.S.Store.faults c.run_under.new.store) c.args.file.now
    (λ store prices. OfCall Sound store P c.args.name.now c.args.input.now (λ f args. Spends Sound prices P f args (record { steps = c.args.steps; cells = cells_or c.args.cells None }))) (prices_of c.in-Ok.prices)
    c.in-Ok.ensures.kept (c.in-Ok.ensures.ok before) c.run_under.result
    (c.run_under.ensures.gives before (earlier_still before (g.S.Store.faults c.args.store.now) (g.S.Store.faults c.read_prices.new.store) earlier c.in-Ok.ensures.later))

pub returns-in-Err-clause-gives : goal.returns-in-Err-clause-gives
returns-in-Err-clause-gives g c before earlier =
    let P = program_of c.args.typed.now in
    let store = store_of (g.S.Store.holds c.args.store.now) before (g.S.Store.faults c.read_prices.new.store) in
    prices_refusal store c.args.file.now
    (λ prices. OfCall Sound store P c.args.name.now c.args.input.now (λ f args. Spends Sound prices P f args (record { steps = c.args.steps; cells = cells_or c.args.cells None })))
    c.in-Err.refusal (c.in-Err.ensures.err before earlier)

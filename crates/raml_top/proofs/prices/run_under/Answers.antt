use Rattle.std.proofs.Common.{None}
use Rattle.raml_syntax.specs.Read.{program_of}
use Rattle.price_file.specs.Read.{prices_of}
use Rattle.raml_promise.specs.Outside.{Sound, store_of}
use Rattle.raml_promise.specs.Call.{cells_or}
use Rattle.raml_promise.specs.Prices.{Spends}
use Rattle.raml_parts.proofs.Stepping.{call_refusal}
use Rattle.raml_parts.proofs.Calling.{call_of, call_gives}
use Rattle.raml_top.proofs.prices.run_under.Goals as goal

pub call_under-requires-clause-call : goal.call_under-requires-clause-call
call_under-requires-clause-call g c =
    let before = g.S.Store.faults c.args.store.now in
    call_of (store_of (g.S.Store.holds c.args.store.now) before (g.S.Store.faults c.read_call.new.store)) (program_of c.args.typed.now) c.args.name.now c.args.input.now c.in-Ok.call (c.in-Ok.ensures.ok before)

pub returns-in-Ok-clause-gives : goal.returns-in-Ok-clause-gives
returns-in-Ok-clause-gives g c before earlier =
    call_gives (store_of (g.S.Store.holds c.args.store.now) before (g.S.Store.faults c.read_call.new.store)) (program_of c.args.typed.now) c.args.name.now c.args.input.now c.in-Ok.call (c.in-Ok.ensures.ok before)
    (λ f args. Spends Sound (prices_of c.args.prices.now) (program_of c.args.typed.now) f args (record { steps = c.args.steps; cells = cells_or c.args.cells None })) c.call_under.result c.call_under.ensures

pub returns-in-Err-clause-gives : goal.returns-in-Err-clause-gives
returns-in-Err-clause-gives g c before earlier =
    call_refusal (store_of (g.S.Store.holds c.args.store.now) before (g.S.Store.faults c.read_call.new.store)) (program_of c.args.typed.now) c.args.name.now c.args.input.now
    (λ f args. Spends Sound (prices_of c.args.prices.now) (program_of c.args.typed.now) f args (record { steps = c.args.steps; cells = cells_or c.args.cells None })) c.in-Err.refusal (c.in-Err.ensures.err before earlier)

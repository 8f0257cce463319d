use Rattle.std.proofs.Common.{[], None}
use Rattle.raml_syntax.specs.Read.{program_of}
use Rattle.raml_promise.specs.Outside.{Sound, store_of}
use Rattle.raml_promise.specs.Call.{Runs, cells_or}
use Rattle.raml_parts.proofs.Stepping.{call_refusal}
use Rattle.raml_parts.proofs.Calling.{call_of, call_gives}
use Rattle.raml_top.proofs.runs.run_within.Goals as goal

pub limited_call-requires-clause-call : goal.limited_call-requires-clause-call
limited_call-requires-clause-call g c =
    let before = g.S.Store.faults c.args.store.now in
    call_of (store_of (g.S.Store.holds c.args.store.now) before (g.S.Store.faults c.read_call.new.store)) (program_of c.args.typed.now) c.args.name.now c.args.file.now c.in-Ok.call (c.in-Ok.ensures.ok before)

pub returns-in-Ok-clause-gives : goal.returns-in-Ok-clause-gives
returns-in-Ok-clause-gives g c before earlier =
    call_gives (store_of (g.S.Store.holds c.args.store.now) before (g.S.Store.faults c.read_call.new.store)) (program_of c.args.typed.now) c.args.name.now c.args.file.now c.in-Ok.call (c.in-Ok.ensures.ok before)
    (λ f args. Runs Sound (program_of c.args.typed.now) f args (record { steps = c.args.steps; cells = cells_or c.args.cells None }) [] []) c.limited_call.result c.limited_call.ensures

pub returns-in-Err-clause-gives : goal.returns-in-Err-clause-gives
returns-in-Err-clause-gives g c before earlier =
    call_refusal (store_of (g.S.Store.holds c.args.store.now) before (g.S.Store.faults c.read_call.new.store)) (program_of c.args.typed.now) c.args.name.now c.args.file.now
    (λ f args. Runs Sound (program_of c.args.typed.now) f args (record { steps = c.args.steps; cells = cells_or c.args.cells None }) [] []) c.in-Err.refusal (c.in-Err.ensures.err before earlier)

use Rattle.raml_syntax.specs.Read.{program_of}
use Rattle.raml_promise.specs.Outside.{Sound, store_of}
use Rattle.raml_promise.specs.Promise.{BoundedCall}
use Rattle.raml_parts.proofs.Stepping.{call_refusal}
use Rattle.raml_parts.proofs.Calling.{call_of, call_gives}
use Rattle.raml_top.proofs.runs.bounded_run.Goals as goal

pub bounded_call-requires-clause-call : goal.bounded_call-requires-clause-call
bounded_call-requires-clause-call g c =
    let before = g.S.Store.faults c.args.store.now in
    call_of (store_of (g.S.Store.holds c.args.store.now) before (g.S.Store.faults c.read_call.new.store)) (program_of c.args.typed.now) c.args.name.now c.args.file.now c.in-Ok.call (c.in-Ok.ensures.ok before)

pub returns-in-Ok-clause-gives : goal.returns-in-Ok-clause-gives
returns-in-Ok-clause-gives g c before earlier =
    call_gives (store_of (g.S.Store.holds c.args.store.now) before (g.S.Store.faults c.read_call.new.store)) (program_of c.args.typed.now) c.args.name.now c.args.file.now c.in-Ok.call (c.in-Ok.ensures.ok before)
    (λ f args. BoundedCall Sound c.args.steps c.args.cells c.args.degree (program_of c.args.typed.now) f args) c.bounded_call.result c.bounded_call.ensures

pub returns-in-Err-clause-gives : goal.returns-in-Err-clause-gives
returns-in-Err-clause-gives g c before earlier =
    call_refusal (store_of (g.S.Store.holds c.args.store.now) before (g.S.Store.faults c.read_call.new.store)) (program_of c.args.typed.now) c.args.name.now c.args.file.now
    (λ f args. BoundedCall Sound c.args.steps c.args.cells c.args.degree (program_of c.args.typed.now) f args) c.in-Err.refusal (c.in-Err.ensures.err before earlier)

use Rattle.raml_syntax.specs.Read.{program_of}
use Rattle.refusal_text.specs.declared.task.Analysed.TheVariants as analysed
use Rattle.raml_promise.specs.Outside.{Sound, store_of}
use Rattle.raml_promise.specs.Promise.{RunsWithBounds}
use Rattle.raml_parts.proofs.Stepping.{program_refusal}
use Rattle.raml_parts.proofs.Reading.{from_now, program_then}
use Rattle.raml_top.proofs.requests.bounded_answer.Goals as goal

pub returns-in-Ok-clause-gives : goal.returns-in-Ok-clause-gives
returns-in-Ok-clause-gives g c =
    let before = g.S.Store.faults c.args.store.now in
    program_then analysed.Program (g.S.Store.holds c.args.store.now) (g.S.Store.holds c.read_program.new.store) before (g.S.Store.faults c.read_program.new.store) (g.S.Store.faults c.bounded_run.new.store)
    c.args.file.now (λ store. RunsWithBounds Sound store c.args.name.now c.args.input.now c.args.steps c.args.cells c.args.degree) (program_of c.in-Ok.typed) c.in-Ok.ensures.kept (c.in-Ok.ensures.ok before) c.bounded_run.result (c.bounded_run.ensures.gives before c.in-Ok.ensures.later)

pub returns-in-Err-clause-gives : goal.returns-in-Err-clause-gives
returns-in-Err-clause-gives g c =
    let before = g.S.Store.faults c.args.store.now in
    let store = store_of (g.S.Store.holds c.args.store.now) before (g.S.Store.faults c.read_program.new.store) in
    program_refusal store analysed.Program c.args.file.now (RunsWithBounds Sound store c.args.name.now c.args.input.now c.args.steps c.args.cells c.args.degree) c.in-Err.refusal (c.in-Err.ensures.err before (from_now before))

use Rattle.raml_syntax.specs.Read.{program_of}
use Rattle.refusal_text.specs.declared.task.Analysed.TheVariants as analysed
use Rattle.raml_promise.specs.Outside.{Sound, store_of}
use Rattle.raml_promise.specs.Promise.{ListsTypes}
use Rattle.raml_parts.proofs.Stepping.{program_goes, program_refusal}
use Rattle.raml_parts.proofs.Reading.{from_now}
use Rattle.raml_top.proofs.requests.types_answer.Goals as goal

pub returns-in-Ok-clause-gives : goal.returns-in-Ok-clause-gives
returns-in-Ok-clause-gives g c =
    let before = g.S.Store.faults c.args.store.now in
    let store = store_of (g.S.Store.holds c.args.store.now) before (g.S.Store.faults c.read_program.new.store) in
    program_goes store analysed.Program c.args.file.now (ListsTypes Sound) (program_of c.in-Ok.typed) (c.in-Ok.ensures.ok before) c.list_types.result c.list_types.ensures

pub returns-in-Err-clause-gives : goal.returns-in-Err-clause-gives
returns-in-Err-clause-gives g c =
    let before = g.S.Store.faults c.args.store.now in
    let store = store_of (g.S.Store.holds c.args.store.now) before (g.S.Store.faults c.read_program.new.store) in
    program_refusal store analysed.Program c.args.file.now (ListsTypes Sound) c.in-Err.refusal (c.in-Err.ensures.err before (from_now before))

use Rattle.raml_syntax.specs.Read.{program_of}
use Rattle.share_normal.specs.Program.{source_in}
use Rattle.rules_plan.specs.Read.{program_in}
use Rattle.refusal_text.specs.declared.task.Analysed.TheVariants as analysed
use Rattle.raml_promise.specs.Outside.{Sound, store_of}
use Rattle.raml_promise.specs.Promise.{ComparesWith}
use Rattle.raml_parts.proofs.Stepping.{program_goes, program_refusal}
use Rattle.raml_top.proofs.comparison.verified_beside.Goals as goal

pub returns-in-Ok-clause-gives : goal.returns-in-Ok-clause-gives
returns-in-Ok-clause-gives g c before earlier =
    let store = store_of (g.S.Store.holds c.args.store.now) before (g.S.Store.faults c.read_program.new.store) in
    program_goes store analysed.Other c.args.file.now
    (ComparesWith Sound c.args.degree (source_in c.args.program.now) (program_in c.args.program.now) c.args.verified.now.certificate)
    (program_of c.in-Ok.other) (c.in-Ok.ensures.ok before) c.compare_with.result c.compare_with.ensures

pub returns-in-Err-clause-gives : goal.returns-in-Err-clause-gives
returns-in-Err-clause-gives g c before earlier =
    let store = store_of (g.S.Store.holds c.args.store.now) before (g.S.Store.faults c.read_program.new.store) in
    program_refusal store analysed.Other c.args.file.now
    (ComparesWith Sound c.args.degree (source_in c.args.program.now) (program_in c.args.program.now) c.args.verified.now.certificate) c.in-Err.refusal (c.in-Err.ensures.err before earlier)

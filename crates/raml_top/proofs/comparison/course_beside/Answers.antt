use Rattle.share_normal.specs.Program.{source_in}
use Rattle.rules_plan.specs.Read.{program_in}
use Rattle.raml_words.specs.declared.request.Rule.TheVariants as rule
use Rattle.refusal_text.specs.declared.task.Analysed.TheVariants as analysed
use Rattle.raml_promise.specs.Outside.{Sound, store_of}
use Rattle.raml_promise.specs.Steps.{OfProgram}
use Rattle.raml_promise.specs.Promise.{ComparesWith}
use Rattle.raml_parts.proofs.Proved.{course_given, course_denied, counts_work}
use Rattle.raml_top.proofs.comparison.course_beside.Goals as goal

pub verified_beside-requires-clause-work : goal.verified_beside-requires-clause-work
verified_beside-requires-clause-work g c = counts_work (program_in c.args.program.now) c.args.degree rule.Least c.in-Ok.verified.certificate c.in-Ok.ensures.course

pub returns-in-Ok-clause-gives : goal.returns-in-Ok-clause-gives
returns-in-Ok-clause-gives g c before earlier =
    let store = store_of (g.S.Store.holds c.args.store.now) before (g.S.Store.faults c.verified_beside.new.store) in
    course_given analysed.Program c.args.program.now c.args.degree rule.Least
    (λ cert. OfProgram Sound store analysed.Other c.args.file.now (ComparesWith Sound c.args.degree (source_in c.args.program.now) (program_in c.args.program.now) cert)) c.in-Ok.verified.certificate
    c.in-Ok.ensures.course c.in-Ok.ensures.proved c.in-Ok.ensures.least c.verified_beside.result (c.verified_beside.ensures.gives before earlier)

pub returns-in-Err-clause-gives : goal.returns-in-Err-clause-gives
returns-in-Err-clause-gives g c before earlier =
    let store = store_of (g.S.Store.holds c.args.store.now) before (g.S.Store.faults c.args.store.now) in
    course_denied analysed.Program c.args.program.now c.args.degree rule.Least
    (λ cert. OfProgram Sound store analysed.Other c.args.file.now (ComparesWith Sound c.args.degree (source_in c.args.program.now) (program_in c.args.program.now) cert))
    c.in-Err.refusal c.in-Err.ensures.err

use Rattle.raml_words.specs.declared.request.Rule.TheVariants as rule
use Rattle.refusal_text.specs.declared.task.Analysed.TheVariants as analysed
use Rattle.raml_promise.specs.Outside.{Sound, store_of}
use Rattle.raml_promise.specs.Steps.{OfProgram}
use Rattle.raml_promise.specs.Analysis.{OfCourse}
use Rattle.raml_promise.specs.Promise.{ComparesWith}
use Rattle.raml_parts.proofs.Proved.{kept_gives}
use Rattle.raml_top.proofs.comparison.comparison.Goals as goal

pub returns-in-Ok-clause-gives : goal.returns-in-Ok-clause-gives
returns-in-Ok-clause-gives g c before earlier =
    let store = store_of (g.S.Store.holds c.args.store.now) before (g.S.Store.faults c.course_beside.new.store) in
    kept_gives c.args.typed.now c.in-Ok.program c.in-Ok.ensures.source c.in-Ok.ensures.groups c.in-Ok.ensures.normal
    (λ P N. OfCourse Sound analysed.Program P N c.args.degree rule.Least (λ cert. OfProgram Sound store analysed.Other c.args.file.now (ComparesWith Sound c.args.degree P N cert)))
    c.course_beside.result (c.course_beside.ensures.gives before earlier)

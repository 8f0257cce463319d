use Rattle.raml_words.specs.declared.request.Rule.TheVariants as rule
use Rattle.refusal_text.specs.declared.task.Analysed.TheVariants as analysed
use Rattle.raml_promise.specs.Outside.{Sound}
use Rattle.raml_promise.specs.Analysis.{OfCourse}
use Rattle.raml_promise.specs.Promise.{PrintsPowers}
use Rattle.raml_parts.proofs.Proved.{kept_gives}
use Rattle.raml_top.proofs.commands.analysis_powers.Goals as goal

pub returns-in-Ok : goal.returns-in-Ok
returns-in-Ok c =
    kept_gives c.args.typed.now c.in-Ok.program c.in-Ok.ensures.source c.in-Ok.ensures.groups c.in-Ok.ensures.normal
    (λ P N. OfCourse Sound analysed.Program P N c.args.degree rule.Least (PrintsPowers Sound P N)) c.course_powers.result c.course_powers.ensures

use Rattle.raml_promise.specs.Outside.{Sound}
use Rattle.refusal_text.specs.declared.task.Analysed.TheVariants as analysed
use Rattle.raml_promise.specs.Analysis.{OfCourse}
use Rattle.raml_promise.specs.Promise.{PrintsLines}
use Rattle.raml_parts.proofs.Proved.{kept_gives}
use Rattle.raml_top.proofs.commands.analysis_lines.Goals as goal

pub returns-in-Ok : goal.returns-in-Ok
returns-in-Ok c =
    kept_gives c.args.typed.now c.in-Ok.program c.in-Ok.ensures.source c.in-Ok.ensures.groups c.in-Ok.ensures.normal
    (λ P N. OfCourse Sound analysed.Program P N c.args.degree c.args.rule (λ c. PrintsLines Sound P N c)) c.course_lines.result c.course_lines.ensures

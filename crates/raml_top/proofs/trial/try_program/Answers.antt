use Rattle.raml_syntax.specs.Read.{program_of}
use Rattle.refusal_text.specs.declared.task.Analysed.TheVariants as analysed
use Rattle.raml_words.specs.declared.request.Rule.TheVariants as rule
use Rattle.raml_promise.specs.Outside.{Sound}
use Rattle.raml_promise.specs.Analysis.{OfCourse}
use Rattle.raml_promise.specs.Promise.{TriesCall}
use Rattle.raml_parts.proofs.Proved.{kept_gives}
use Rattle.raml_top.proofs.trial.try_program.Goals as goal

pub returns-in-Ok : goal.returns-in-Ok
returns-in-Ok c =
    kept_gives c.args.typed.now c.in-Ok.program c.in-Ok.ensures.source c.in-Ok.ensures.groups c.in-Ok.ensures.normal
    (λ P N. OfCourse Sound analysed.Program (program_of c.args.typed.now) N 1 rule.Least (λ cert. TriesCall Sound c.args.count (program_of c.args.typed.now) N cert)) c.try_course.result c.try_course.ensures

use Rattle.raml_syntax.specs.Read.{program_of}
use Rattle.refusal_text.specs.declared.task.Analysed.TheVariants as analysed
use Rattle.raml_words.specs.declared.request.Rule.TheVariants as rule
use Rattle.raml_promise.specs.Outside.{Sound}
use Rattle.raml_promise.specs.Analysis.{OfCourse}
use Rattle.raml_promise.specs.Call.{OfFloors}
use Rattle.raml_promise.specs.Promise.{RunsBounded}
use Rattle.raml_parts.proofs.Proved.{kept_gives}
use Rattle.raml_top.proofs.runs.bounded_call.Goals as goal

pub returns-in-Ok : goal.returns-in-Ok
returns-in-Ok c f vs is =
    kept_gives c.args.typed.now c.in-Ok.program c.in-Ok.ensures.source c.in-Ok.ensures.groups c.in-Ok.ensures.normal (λ P N. OfCourse Sound analysed.Program (program_of c.args.typed.now) N c.args.degree rule.Least (λ cert. OfFloors Sound (program_of c.args.typed.now) N cert f vs (λ floors. RunsBounded Sound (program_of c.args.typed.now) f vs c.args.steps c.args.cells floors))) c.course_call.result (c.course_call.ensures f vs is)

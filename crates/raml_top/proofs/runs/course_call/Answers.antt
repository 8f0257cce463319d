use Rattle.std.proofs.Common.{◌∙◌, ap, subst}
use Rattle.raml_syntax.specs.Read.{program_of}
use Rattle.share_normal.specs.Program.{Kept}
use Rattle.rules_plan.specs.Read.{program_in}
use Rattle.raml_words.specs.declared.request.Rule.TheVariants as rule
use Rattle.raml_promise.specs.Outside.{Sound}
use Rattle.raml_promise.specs.Call.{OfFloors}
use Rattle.raml_promise.specs.Promise.{RunsBounded}
use Rattle.raml_parts.specs.Parts.{Gives}
use Rattle.raml_parts.proofs.Proved.{course_goes, course_refused, counts_work}
use Rattle.raml_top.proofs.runs.course_call.Goals as goal

pub floors_call-requires-clause-source : goal.floors_call-requires-clause-source
floors_call-requires-clause-source c = ap (λ (k : Kept). k.source) c.in-Ok.ensures.program ∙ c.requires.source

pub floors_call-requires-clause-work : goal.floors_call-requires-clause-work
floors_call-requires-clause-work c = counts_work (program_in c.args.program.now) c.args.degree rule.Least c.in-Ok.verified.certificate c.in-Ok.ensures.course

pub returns-in-Ok : goal.returns-in-Ok
returns-in-Ok c f vs is =
    let given : Gives (OfFloors Sound (program_of c.args.typed.now) (program_in c.args.program.now) c.in-Ok.verified.certificate f vs (λ floors. RunsBounded Sound (program_of c.args.typed.now) f vs c.args.steps c.args.cells floors)) c.floors_call.result =
    subst (λ (k : Kept). Gives (OfFloors Sound (program_of c.args.typed.now) (program_in k) c.in-Ok.verified.certificate f vs (λ floors. RunsBounded Sound (program_of c.args.typed.now) f vs c.args.steps c.args.cells floors)) c.floors_call.result) c.in-Ok.ensures.program (c.floors_call.ensures f vs is) in
    course_goes c.args.typed.now c.args.program.now c.requires.source c.args.degree rule.Least (λ cert. OfFloors Sound (program_of c.args.typed.now) (program_in c.args.program.now) cert f vs (λ floors. RunsBounded Sound (program_of c.args.typed.now) f vs c.args.steps c.args.cells floors)) c.in-Ok.verified.certificate c.in-Ok.ensures.course c.in-Ok.ensures.proved c.in-Ok.ensures.least c.floors_call.result given

pub returns-in-Err : goal.returns-in-Err
returns-in-Err c f vs is = course_refused c.args.typed.now c.args.program.now c.requires.source c.args.degree rule.Least (λ cert. OfFloors Sound (program_of c.args.typed.now) (program_in c.args.program.now) cert f vs (λ floors. RunsBounded Sound (program_of c.args.typed.now) f vs c.args.steps c.args.cells floors)) c.in-Err.refusal c.in-Err.ensures.err

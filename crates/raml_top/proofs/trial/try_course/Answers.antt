use Rattle.std.proofs.Common.{◌∙◌, ap, subst}
use Rattle.raml_syntax.specs.Read.{program_of}
use Rattle.share_normal.specs.Program.{Kept}
use Rattle.rules_plan.specs.Read.{program_in}
use Rattle.raml_words.specs.declared.request.Rule.TheVariants as rule
use Rattle.raml_promise.specs.Outside.{Sound}
use Rattle.raml_promise.specs.Promise.{TriesCall}
use Rattle.raml_parts.specs.Parts.{Gives}
use Rattle.raml_parts.proofs.Proved.{course_goes, course_refused}
use Rattle.raml_top.proofs.trial.try_course.Goals as goal

pub try_function-requires-clause-source : goal.try_function-requires-clause-source
try_function-requires-clause-source c = ap (λ (k : Kept). k.source) c.in-Ok.ensures.program ∙ c.requires.source

pub returns-in-Ok : goal.returns-in-Ok
returns-in-Ok c =
    let given : Gives (TriesCall Sound c.args.count (program_of c.args.typed.now) (program_in c.args.program.now) c.in-Ok.verified.certificate) c.try_function.result =
    subst (λ (k : Kept). Gives (TriesCall Sound c.args.count (program_of c.args.typed.now) (program_in k) c.in-Ok.verified.certificate) c.try_function.result) c.in-Ok.ensures.program c.try_function.ensures in
    course_goes c.args.typed.now c.args.program.now c.requires.source 1 rule.Least (λ cert. TriesCall Sound c.args.count (program_of c.args.typed.now) (program_in c.args.program.now) cert) c.in-Ok.verified.certificate c.in-Ok.ensures.course c.in-Ok.ensures.proved c.in-Ok.ensures.least c.try_function.result given

pub returns-in-Err : goal.returns-in-Err
returns-in-Err c = course_refused c.args.typed.now c.args.program.now c.requires.source 1 rule.Least (λ cert. TriesCall Sound c.args.count (program_of c.args.typed.now) (program_in c.args.program.now) cert) c.in-Err.refusal c.in-Err.ensures.err

use Rattle.share_normal.specs.Program.{source_in}
use Rattle.rules_plan.specs.Read.{program_in}
use Rattle.raml_words.specs.declared.request.Rule.TheVariants as rule
use Rattle.refusal_text.specs.declared.task.Analysed.TheVariants as analysed
use Rattle.raml_promise.specs.Outside.{Sound}
use Rattle.raml_promise.specs.Promise.{PrintsPowers}
use Rattle.raml_parts.proofs.Proved.{course_given, course_denied}
use Rattle.raml_top.proofs.commands.course_powers.Goals as goal

pub returns-in-Ok : goal.returns-in-Ok
returns-in-Ok c =
    course_given analysed.Program c.args.program.now c.args.degree rule.Least (PrintsPowers Sound (source_in c.args.program.now) (program_in c.args.program.now)) c.in-Ok.verified.certificate
    c.in-Ok.ensures.course c.in-Ok.ensures.proved c.in-Ok.ensures.least c.power_report.result c.power_report.ensures

pub returns-in-Err : goal.returns-in-Err
returns-in-Err c =
    course_denied analysed.Program c.args.program.now c.args.degree rule.Least (PrintsPowers Sound (source_in c.args.program.now) (program_in c.args.program.now)) c.in-Err.refusal c.in-Err.ensures.err

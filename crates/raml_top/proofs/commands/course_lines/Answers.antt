use Rattle.share_normal.specs.Program.{source_in}
use Rattle.rules_plan.specs.Read.{program_in}
use Rattle.refusal_text.specs.declared.task.Analysed.TheVariants as analysed
use Rattle.raml_promise.specs.Outside.{Sound}
use Rattle.raml_promise.specs.Promise.{PrintsLines}
use Rattle.raml_parts.proofs.Proved.{course_given, course_denied}
use Rattle.raml_top.proofs.commands.course_lines.Goals as goal

pub returns-in-Ok : goal.returns-in-Ok
returns-in-Ok c =
    course_given analysed.Program c.args.program.now c.args.degree c.args.rule (λ cert. PrintsLines Sound (source_in c.args.program.now) (program_in c.args.program.now) cert) c.in-Ok.verified.certificate
    c.in-Ok.ensures.course c.in-Ok.ensures.proved c.in-Ok.ensures.least c.line_report.result c.line_report.ensures

pub returns-in-Err : goal.returns-in-Err
returns-in-Err c =
    course_denied analysed.Program c.args.program.now c.args.degree c.args.rule (λ cert. PrintsLines Sound (source_in c.args.program.now) (program_in c.args.program.now) cert) c.in-Err.refusal c.in-Err.ensures.err

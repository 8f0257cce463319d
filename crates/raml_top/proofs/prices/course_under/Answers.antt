use Rattle.rules_plan.specs.Read.{program_in}
use Rattle.raml_words.specs.declared.request.Rule.TheVariants as rule
use Rattle.refusal_text.specs.declared.task.Analysed.TheVariants as analysed
use Rattle.raml_promise.specs.Outside.{Sound}
use Rattle.raml_promise.specs.Steps.{Prints}
use Rattle.raml_promise.specs.Prices.{ArePricedLines}
use Rattle.raml_parts.proofs.Proved.{course_given, course_denied}
use Rattle.raml_top.proofs.prices.course_under.Goals as goal

pub returns-in-Ok : goal.returns-in-Ok
returns-in-Ok c prices P same =
    course_given analysed.Program c.args.program.now c.args.degree rule.Least (λ cert. Prints Sound (ArePricedLines prices P (program_in c.args.program.now) cert)) c.in-Ok.verified.certificate
    c.in-Ok.ensures.course c.in-Ok.ensures.proved c.in-Ok.ensures.least c.tick_report.result (c.tick_report.ensures prices P same)

pub returns-in-Err : goal.returns-in-Err
returns-in-Err c prices P same =
    course_denied analysed.Program c.args.program.now c.args.degree rule.Least (λ cert. Prints Sound (ArePricedLines prices P (program_in c.args.program.now) cert)) c.in-Err.refusal c.in-Err.ensures.err

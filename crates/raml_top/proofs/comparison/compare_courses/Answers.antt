use Rattle.share_normal.specs.Program.{source_in}
use Rattle.rules_plan.specs.Read.{program_in}
use Rattle.raml_words.specs.declared.request.Rule.TheVariants as rule
use Rattle.refusal_text.specs.declared.task.Analysed.TheVariants as analysed
use Rattle.analysis_report.specs.Comparison.{AreComparisons}
use Rattle.raml_promise.specs.Outside.{Sound}
use Rattle.raml_promise.specs.Steps.{Prints}
use Rattle.raml_parts.proofs.Proved.{course_given, course_denied, counts_work}
use Rattle.raml_top.proofs.comparison.compare_courses.Goals as goal

pub comparison_report-requires-clause-other_work : goal.comparison_report-requires-clause-other_work
comparison_report-requires-clause-other_work c = counts_work (program_in c.args.other.now) c.args.degree rule.Least c.in-Ok.found.certificate c.in-Ok.ensures.course

pub returns-in-Ok : goal.returns-in-Ok
returns-in-Ok c =
    course_given analysed.Other c.args.other.now c.args.degree rule.Least
    (λ e. Prints Sound (AreComparisons (source_in c.args.program.now) (program_in c.args.program.now) c.args.verified.now.certificate (source_in c.args.other.now) (program_in c.args.other.now) e))
    c.in-Ok.found.certificate c.in-Ok.ensures.course c.in-Ok.ensures.proved c.in-Ok.ensures.least c.comparison_report.result c.comparison_report.ensures

pub returns-in-Err : goal.returns-in-Err
returns-in-Err c =
    course_denied analysed.Other c.args.other.now c.args.degree rule.Least
    (λ e. Prints Sound (AreComparisons (source_in c.args.program.now) (program_in c.args.program.now) c.args.verified.now.certificate (source_in c.args.other.now) (program_in c.args.other.now) e))
    c.in-Err.refusal c.in-Err.ensures.err

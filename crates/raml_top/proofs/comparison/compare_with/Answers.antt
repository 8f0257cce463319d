use Rattle.share_normal.specs.Program.{source_in}
use Rattle.rules_plan.specs.Read.{program_in}
use Rattle.raml_words.specs.declared.request.Rule.TheVariants as rule
use Rattle.refusal_text.specs.declared.task.Analysed.TheVariants as analysed
use Rattle.analysis_report.specs.Comparison.{AreComparisons}
use Rattle.raml_promise.specs.Outside.{Sound}
use Rattle.raml_promise.specs.Steps.{Prints}
use Rattle.raml_promise.specs.Analysis.{OfCourse}
use Rattle.raml_parts.proofs.Proved.{kept_gives}
use Rattle.raml_top.proofs.comparison.compare_with.Goals as goal

pub returns-in-Ok : goal.returns-in-Ok
returns-in-Ok c =
    kept_gives c.args.other.now c.in-Ok.other c.in-Ok.ensures.source c.in-Ok.ensures.groups c.in-Ok.ensures.normal
    (λ Q M. OfCourse Sound analysed.Other Q M c.args.degree rule.Least
    (λ e. Prints Sound (AreComparisons (source_in c.args.program.now) (program_in c.args.program.now) c.args.verified.now.certificate Q M e)))
    c.compare_courses.result c.compare_courses.ensures

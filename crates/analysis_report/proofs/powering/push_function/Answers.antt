use Rattle.std.proofs.Common.{sym, ◌∙◌}
use Rattle.std.proofs.lemmas.Result.{on_ok_weaker}
use Rattle.share_normal.specs.Program.{source_in}
use Rattle.rules_plan.specs.Read.{program_in}
use Rattle.analysis_report.proofs.Powered.{with_work, without_work}
use Rattle.analysis_report.proofs.powering.push_function.Goals as goal

pub returns-then-counts_work-clause-lines : goal.returns-then-counts_work-clause-lines
returns-then-counts_work-clause-lines c =
    on_ok_weaker _
    (λ last. with_work (source_in c.args.verified.now.program) (program_in c.args.verified.now.program) c.args.verified.now.certificate c.args.fun.0 _ _ _ _ (sym c.counts_work.ensures ∙ c.if-counts_work.true)
    c.in_ok-push_line.ensures.line c.in_ok-push_line-2.ensures.line last)
    c.push_line-then-counts_work.ensures.line

pub returns-clause-lines : goal.returns-clause-lines
returns-clause-lines c =
    without_work (source_in c.args.verified.now.program) (program_in c.args.verified.now.program) c.args.verified.now.certificate c.args.fun.0 _ _ _ (sym c.counts_work.ensures ∙ c.if-counts_work.false)
    c.in_ok-push_line.ensures.line c.in_ok-push_line-2.ensures.line

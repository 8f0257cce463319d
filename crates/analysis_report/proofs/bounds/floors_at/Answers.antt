use Rattle.share_normal.specs.Program.{source_in}
use Rattle.rules_plan.specs.Read.{program_in}
use Rattle.analysis_report.proofs.Holding.{work_refused, floors_hold}
use Rattle.analysis_report.proofs.bounds.floors_at.Goals as goal

pub returns-in_err-work-clause-err : goal.returns-in_err-work-clause-err
returns-in_err-work-clause-err c vs stand =
    work_refused (program_in c.args.verified.now.program) c.args.verified.now.certificate c.args.fun.0 vs c.in_ok-ticks.ticks c.in_ok-cells.cells c.from_residual-in_err-work.result c.in_err-work.field-0.0
    c.from_residual-in_err-work.ensures.1 (c.in_ok-ticks.ensures.ok vs stand) (c.in_ok-cells.ensures.ok vs stand) (c.in_err-work.ensures.err vs stand)

pub returns-clause-hold : goal.returns-clause-hold
returns-clause-hold c vs stand =
    floors_hold c.never_asks.ensures (source_in c.args.verified.now.program) c.args.fun.0 vs _ (c.in_ok-ticks.ensures.bound vs stand) (c.in_ok-cells.ensures.bound vs stand) (c.in_ok-work.ensures.bound vs stand)

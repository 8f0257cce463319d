use Rattle.analysis_report.proofs.Limits.{never_stopped}
use Rattle.analysis_report.proofs.laws.never_stopped.Goals as goal

pub returns : goal.returns
returns c = never_stopped

use Rattle.analysis_report.proofs.Limits.{never_asks}
use Rattle.analysis_report.proofs.laws.never_asks.Goals as goal

pub returns : goal.returns
returns c = never_asks

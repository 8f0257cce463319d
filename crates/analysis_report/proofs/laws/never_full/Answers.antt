use Rattle.analysis_report.proofs.Limits.{never_full}
use Rattle.analysis_report.proofs.laws.never_full.Goals as goal

pub returns : goal.returns
returns c = never_full

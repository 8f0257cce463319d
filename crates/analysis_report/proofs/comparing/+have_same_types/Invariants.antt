use Rattle.std.proofs.Common.{length}
use Rattle.analysis_report.proofs.comparing.+have_same_types.Given as goal

abbrev pub decreases-have_same_types : goal.decreases-have_same_types
decreases-have_same_types l = length l.first.now

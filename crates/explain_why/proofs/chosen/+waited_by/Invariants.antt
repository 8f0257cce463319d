use Rattle.std.proofs.Common.{length}
use Rattle.explain_why.proofs.chosen.+waited_by.Given as goal

abbrev pub decreases-waited_by : goal.decreases-waited_by
decreases-waited_by l = length l.reasons.now

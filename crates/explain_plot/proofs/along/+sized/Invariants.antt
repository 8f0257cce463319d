use Rattle.std.proofs.Common.{length}
use Rattle.explain_plot.proofs.along.+sized.Given as goal

abbrev pub decreases-sized : goal.decreases-sized
decreases-sized l = length l.params.now

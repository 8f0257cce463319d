use Rattle.std.proofs.Common.{length}
use Rattle.explain_why.proofs.chosen.+some_lacks.Given as goal

abbrev pub decreases-some_lacks : goal.decreases-some_lacks
decreases-some_lacks l = length l.group.now

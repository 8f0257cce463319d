use Rattle.std.proofs.Common.{length}
use Rattle.explain_uses.proofs.walk.+walk_below.Given as goal

abbrev pub decreases-walk_below : goal.decreases-walk_below
decreases-walk_below l = length l.params.now

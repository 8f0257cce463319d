use Rattle.std.proofs.Common.{length}
use Rattle.explain_why.proofs.chosen.+tells_some.Given as goal

abbrev pub decreases-tells_some : goal.decreases-tells_some
decreases-tells_some l = length l.some.now

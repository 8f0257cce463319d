use Rattle.std.proofs.Common.{length}
use Rattle.explain_rounds.proofs.handed.+hand_all.Given as goal

abbrev pub decreases-hand_all : goal.decreases-hand_all
decreases-hand_all l = length l.params.now

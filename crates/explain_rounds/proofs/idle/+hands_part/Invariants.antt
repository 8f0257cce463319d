use Rattle.std.proofs.Common.{length}
use Rattle.explain_rounds.proofs.idle.+hands_part.Given as goal

abbrev pub decreases-hands_part : goal.decreases-hands_part
decreases-hands_part l = length l.params.now

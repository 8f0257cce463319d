use Rattle.std.proofs.Common.{length}
use Rattle.explain_rounds.proofs.idle.+hands_made.Given as goal

abbrev pub decreases-hands_made : goal.decreases-hands_made
decreases-hands_made l = length l.params.now

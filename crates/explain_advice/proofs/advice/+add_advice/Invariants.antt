use Rattle.std.proofs.Common.{length}
use Rattle.explain_advice.proofs.advice.+add_advice.Given as goal

abbrev pub decreases-add_advice : goal.decreases-add_advice
decreases-add_advice l = length l.reasons.now

use Rattle.std.proofs.Common.{length}
use Rattle.explain_data.proofs.need.need_behind.Given as goal

abbrev pub decreases-loop-token : goal.decreases-loop-token
decreases-loop-token l = length l.rest

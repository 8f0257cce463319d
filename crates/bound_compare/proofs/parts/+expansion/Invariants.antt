use Rattle.std.proofs.Common.{length}
use Rattle.bound_compare.proofs.parts.+expansion.Given as goal

abbrev pub decreases-expansion : goal.decreases-expansion
decreases-expansion l = length l.indices.now

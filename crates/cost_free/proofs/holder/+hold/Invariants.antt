use Rattle.std.proofs.Common.{length}
use Rattle.cost_free.proofs.holder.+hold.Given as goal

abbrev pub decreases-hold : goal.decreases-hold
decreases-hold l = length l.holders.now

use Rattle.std.proofs.Common.{◌+◌, ◌*◌, length}
use Rattle.tuple_ranks.proofs.slots.+permuted.Given as goal

abbrev pub decreases-permuted : goal.decreases-permuted
decreases-permuted l = 2 * length l.order.now

abbrev pub decreases-permuted_behind : goal.decreases-permuted_behind
decreases-permuted_behind l = 2 * length l.order.now + 1

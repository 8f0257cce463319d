use Rattle.std.proofs.Common.{◌+◌, ◌*◌, length}
use Rattle.tuple_ranks.proofs.columns.+columns_of.Given as goal

abbrev pub decreases-columns_of : goal.decreases-columns_of
decreases-columns_of l = 2 * length l.sizes.now

abbrev pub decreases-with_first : goal.decreases-with_first
decreases-with_first l = 2 * length l.rest.now + 1

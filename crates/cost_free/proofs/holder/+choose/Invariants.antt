use Rattle.std.proofs.Common.{◌+◌, ◌*◌, length}
use Rattle.cost_free.proofs.holder.+choose.Given as goal

abbrev pub decreases-append_sets : goal.decreases-append_sets
decreases-append_sets l = 2 * length l.others.now

abbrev pub decreases-append_with : goal.decreases-append_with
decreases-append_with l = 2 * length l.more.now + 1

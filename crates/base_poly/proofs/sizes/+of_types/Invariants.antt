use Rattle.std.proofs.Common.{◌+◌, ◌*◌, length}
use Rattle.base_poly.proofs.sizes.+of_types.Given as goal

abbrev pub decreases-of_types : goal.decreases-of_types
decreases-of_types l = 4 * length l.types.now

abbrev pub decreases-by_first_type : goal.decreases-by_first_type
decreases-by_first_type l = 4 * length l.rest.now + 3

abbrev pub decreases-before_others : goal.decreases-before_others
decreases-before_others l = 4 * length l.rest.now + 2

abbrev pub decreases-with_others : goal.decreases-with_others
decreases-with_others l = 4 * length l.rest.now + 1

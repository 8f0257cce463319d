use Rattle.std.proofs.Common.{◌+◌, ◌*◌}
use Rattle.parse_table.proofs.types.+ty.Given as goal

abbrev pub decreases-parse_type : goal.decreases-parse_type
decreases-parse_type l = 10 * l.depth

abbrev pub decreases-parse_product : goal.decreases-parse_product
decreases-parse_product l = 10 * l.depth + 5

abbrev pub decreases-parse_second : goal.decreases-parse_second
decreases-parse_second l = 10 * l.depth + 4

abbrev pub decreases-parse_postfix : goal.decreases-parse_postfix
decreases-parse_postfix l = 10 * l.depth + 4

abbrev pub decreases-parse_base : goal.decreases-parse_base
decreases-parse_base l = 10 * l.depth + 3

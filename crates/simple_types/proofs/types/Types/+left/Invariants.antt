use Rattle.std.specs.Prelude.{◌+◌, ◌*◌}
use Rattle.simple_types.proofs.types.Types.+left.Given as goal

abbrev pub decreases-left : goal.decreases-left
decreases-left l = 2 * l.id.0 + 1

abbrev pub decreases-left_by_part : goal.decreases-left_by_part
decreases-left_by_part l = 2 * l.whole.0

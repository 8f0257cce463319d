use Rattle.std.specs.Prelude.{◌+◌, ◌*◌}
use Rattle.simple_types.proofs.types.Types.+copy.Given as goal

abbrev pub decreases-copy : goal.decreases-copy
decreases-copy l = 2 * l.id.0 + 1

abbrev pub decreases-copy_part : goal.decreases-copy_part
decreases-copy_part l = 2 * l.whole.0

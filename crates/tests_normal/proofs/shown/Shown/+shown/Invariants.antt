use Rattle.std.proofs.Common.{◌+◌, ◌*◌}
use Rattle.normal_spec.specs.Norm.{size}
use Rattle.normal_spec.specs.Read.{norm_of}
use Rattle.tests_normal.proofs.shown.Shown.+shown.Given as goal

abbrev pub decreases-form : goal.decreases-form
decreases-form l = 3 * size (norm_of l.e.now)

abbrev pub decreases-part : goal.decreases-part
decreases-part l = 3 * size (norm_of l.part.now) + 1

abbrev pub decreases-with_part : goal.decreases-with_part
decreases-with_part l = 3 * size (norm_of l.part.now) + 2

abbrev pub decreases-with_parts : goal.decreases-with_parts
decreases-with_parts l = 3 * (size (norm_of l.first.now) + size (norm_of l.second.now)) + 2

abbrev pub decreases-tick : goal.decreases-tick
decreases-tick l = 3 * size (norm_of l.part.now) + 2

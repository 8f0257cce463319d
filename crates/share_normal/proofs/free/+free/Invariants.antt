use Rattle.std.proofs.Common.{◌+◌, ◌*◌}
use Rattle.normal_spec.specs.Norm.{size}
use Rattle.normal_spec.specs.Read.{norm_of}
use Rattle.share_normal.proofs.free.+free.Given as goal

abbrev pub decreases-free_variables : goal.decreases-free_variables
decreases-free_variables l = 2 * size (norm_of l.expr.now)

abbrev pub decreases-one : goal.decreases-one
decreases-one l = 2 * size (norm_of l.part.now) + 1

abbrev pub decreases-two : goal.decreases-two
decreases-two l = 2 * (size (norm_of l.first.now) + size (norm_of l.second.now)) + 1

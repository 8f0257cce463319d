use Rattle.std.proofs.Common.{◌+◌, ◌*◌}
use Rattle.normal_spec.specs.Norm.{size}
use Rattle.normal_spec.specs.Read.{norm_of}
use Rattle.rules_plan.proofs.free.+free.Given as goal

abbrev pub decreases-is_free : goal.decreases-is_free
decreases-is_free l = 2 * size (norm_of l.expr.now)

abbrev pub decreases-is_free_behind : goal.decreases-is_free_behind
decreases-is_free_behind l = 2 * size (norm_of l.expr.now) + 1

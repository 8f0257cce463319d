use Rattle.std.proofs.Common.{◌+◌, ◌*◌}
use Rattle.normal_spec.specs.Norm.{size}
use Rattle.normal_spec.specs.Read.{norm_of}
use Rattle.rules_plan.proofs.small.+small.Given as goal

abbrev pub decreases-is_flat : goal.decreases-is_flat
decreases-is_flat l = 2 * size (norm_of l.expr.now)

abbrev pub decreases-is_flat_behind : goal.decreases-is_flat_behind
decreases-is_flat_behind l = 2 * (size (norm_of l.a.now) + size (norm_of l.b.now)) + 1

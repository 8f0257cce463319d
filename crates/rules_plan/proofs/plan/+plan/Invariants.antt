use Rattle.std.proofs.Common.{◌+◌, ◌*◌}
use Rattle.normal_spec.specs.Norm.{size}
use Rattle.normal_spec.specs.Read.{norm_of}
use Rattle.rules_plan.proofs.plan.+plan.Given as goal

abbrev pub decreases-plans : goal.decreases-plans
decreases-plans l = 4 * size (norm_of l.expr.now)

abbrev pub decreases-left : goal.decreases-left
decreases-left l = 4 * size (norm_of l.a.now) + 1

abbrev pub decreases-taken_apart : goal.decreases-taken_apart
decreases-taken_apart l = 4 * size (norm_of l.a.now) + 1

abbrev pub decreases-plan_split : goal.decreases-plan_split
decreases-plan_split l = 4 * size (norm_of l.a.now) + 2

abbrev pub decreases-plan_drop : goal.decreases-plan_drop
decreases-plan_drop l = 4 * size (norm_of l.a.now) + 2

abbrev pub decreases-plan_if : goal.decreases-plan_if
decreases-plan_if l = 4 * (size (norm_of l.a.now) + size (norm_of l.b.now)) + 2

abbrev pub decreases-plan_case : goal.decreases-plan_case
decreases-plan_case l = 4 * (size (norm_of l.a.now) + size (norm_of l.b.now)) + 2

abbrev pub decreases-plan_tick : goal.decreases-plan_tick
decreases-plan_tick l = 4 * size (norm_of l.a.now) + 1

abbrev pub decreases-plan_share : goal.decreases-plan_share
decreases-plan_share l = 4 * size (norm_of l.a.now) + 1

abbrev pub decreases-bound_plans : goal.decreases-bound_plans
decreases-bound_plans l = 4 * size (norm_of l.a.now) + 1

abbrev pub decreases-plan_let : goal.decreases-plan_let
decreases-plan_let l = 4 * (size (norm_of l.a.now) + size (norm_of l.b.now)) + 2

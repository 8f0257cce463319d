use Rattle.std.proofs.Common.{◌≡◌, ◌+◌, ◌*◌, ◌++◌, drop}
use Rattle.rules_spec.specs.Growth.{growths}
use Rattle.rules_walk.specs.Read.{size, sizes, plan_of, plans_of}
use Rattle.rules_walk.proofs.growing.+growth.Given as goal

abbrev pub decreases-growth : goal.decreases-growth
decreases-growth l = 4 * size (plan_of l.plan.now)

abbrev pub decreases-after : goal.decreases-after
decreases-after l = 4 * size (plan_of l.rest.now) + 1

abbrev pub decreases-growths : goal.decreases-growths
decreases-growths l = 4 * sizes (plans_of l.firsts.now) + 1

abbrev pub decreases-bound_growth : goal.decreases-bound_growth
decreases-bound_growth l = 4 * (sizes (plans_of l.firsts.now) + size (plan_of l.rest.now)) + 2

abbrev pub invariant-growths-loop-first : goal.invariant-growths-loop-first
invariant-growths-loop-first l = l.made.items ++ growths l.factor (plans_of (drop l.first-index l.firsts)) ≡ growths l.factor (plans_of l.firsts)

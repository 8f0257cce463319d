use Rattle.std.proofs.Common.{◌≡◌, ◌+◌, ◌*◌, ◌++◌, map, drop}
use Rattle.rules_spec.specs.Asked.{each_asked, all_asked}
use Rattle.rules_walk.specs.Steps.{part_of}
use Rattle.rules_walk.specs.Read.{size, sizes, plan_of, plans_of}
use Rattle.rules_walk.specs.Asks.{asks_of}
use Rattle.rules_walk.specs.Filled.{table_of, uses_of, all_filled}
use Rattle.rules_walk.proofs.ask.+ask.Given as goal

abbrev pub decreases-append : goal.decreases-append
decreases-append l = 4 * size (plan_of l.plan.now)

abbrev pub decreases-append_both : goal.decreases-append_both
decreases-append_both l = 4 * (size (plan_of l.first.now) + size (plan_of l.second.now)) + 3

abbrev pub decreases-append_shared : goal.decreases-append_shared
decreases-append_shared l = 4 * size (plan_of l.rest.now) + 1

abbrev pub decreases-append_bound : goal.decreases-append_bound
decreases-append_bound l = 4 * (sizes (plans_of l.firsts.now) + size (plan_of l.rest.now)) + 3

abbrev pub decreases-append_each : goal.decreases-append_each
decreases-append_each l = 4 * sizes (plans_of l.firsts.now) + 2

abbrev pub decreases-append_at : goal.decreases-append_at
decreases-append_at l = 4 * sizes (plans_of l.firsts.now) + 1

abbrev pub invariant-append_each-loop-part : goal.invariant-append_each-loop-part
invariant-append_each-loop-part l =
    let asks = all_asked (all_filled (uses_of (table_of l.uses)) l.budget (plans_of l.firsts)) in
    asks_of l.asks.items ++ each_asked asks (map part_of (drop l.part-index l.parts)) ≡ asks_of l.fn.asks.items ++ each_asked asks (map part_of l.parts)

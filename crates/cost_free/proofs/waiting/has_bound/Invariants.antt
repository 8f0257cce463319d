use Rattle.std.proofs.Common.{◌≡◌, ◌≤◌, drop, length, false}
use Rattle.cost_free.specs.Blocked.{has_bound}
use Rattle.cost_free.specs.Read.{lists_of, outcomes_of}
use Rattle.cost_free.proofs.waiting.has_bound.Given as goal

abbrev pub invariant-loop-left : goal.invariant-loop-left
invariant-loop-left l =
    (l.left ≤ length l.done)
    × (has_bound (lists_of l.groups) l.meter (outcomes_of (drop l.left l.done)) l.fun ≡ false)

abbrev pub decreases-loop-left : goal.decreases-loop-left
decreases-loop-left l = l.left

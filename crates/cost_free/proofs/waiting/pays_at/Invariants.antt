use Rattle.std.proofs.Common.{◌-◌, ◌≤◌, length}
use Rattle.cost_free.proofs.waiting.pays_at.Given as goal

abbrev pub invariant-loop-place : goal.invariant-loop-place
invariant-loop-place l = l.place ≤ length l.done

abbrev pub decreases-loop-place : goal.decreases-loop-place
decreases-loop-place l = length l.done - l.place

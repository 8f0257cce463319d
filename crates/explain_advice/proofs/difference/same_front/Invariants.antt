use Rattle.std.proofs.Common.{length, ◌-◌, ◌≡◌, ◌≤◌, take}
use Rattle.explain_advice.proofs.difference.same_front.Given as goal

abbrev pub invariant-loop-count : goal.invariant-loop-count
invariant-loop-count l =
    (l.lines ≤ l.count) × (l.count ≤ length l.old) × (l.count ≤ length l.new) × (take l.count l.old ≡ take l.count l.new)
    × (take l.lines l.old ≡ take l.lines l.new)

abbrev pub decreases-loop-count : goal.decreases-loop-count
decreases-loop-count l = length l.old - l.count

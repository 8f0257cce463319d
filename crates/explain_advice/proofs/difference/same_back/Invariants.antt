use Rattle.std.proofs.Common.{length, ◌-◌, ◌≡◌, ◌≤◌, drop}
use Rattle.explain_advice.proofs.difference.same_back.Given as goal

abbrev pub invariant-loop-count : goal.invariant-loop-count
invariant-loop-count l =
    (l.lines ≤ l.count) × (l.count ≤ length l.old) × (l.count ≤ length l.new)
    × (drop (length l.old - l.count) l.old ≡ drop (length l.new - l.count) l.new)
    × (drop (length l.old - l.lines) l.old ≡ drop (length l.new - l.lines) l.new)

abbrev pub decreases-loop-count : goal.decreases-loop-count
decreases-loop-count l = length l.old - l.count

use Rattle.std.proofs.Common.{◌<◌, ◌≤ℤ◌, ◌<ℤ◌, ℕ, pos, length, slice_index_or}
use Rattle.std.specs.Prelude.{IfSome, IfNone}
use Rattle.frac128.specs.Values.{numerator}
use Rattle.frac128.specs.Nought.{nought}
use Rattle.tests_solver.proofs.choosers.greatest_column.Given as goal

abbrev pub invariant-loop-c : goal.invariant-loop-c
invariant-loop-c l =
    IfSome l.greatest (λ c. (c < length l.gains) × (pos 0 <ℤ numerator (slice_index_or l.gains c nought)))
    × IfNone l.greatest ((k : ℕ) → k < l.c → numerator (slice_index_or l.gains k nought) ≤ℤ pos 0)

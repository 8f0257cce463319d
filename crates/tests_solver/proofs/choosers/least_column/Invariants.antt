use Rattle.std.proofs.Common.{◌<◌, ◌≤ℤ◌, ℕ, pos, slice_index_or}
use Rattle.frac128.specs.Values.{numerator}
use Rattle.frac128.specs.Nought.{nought}
use Rattle.tests_solver.proofs.choosers.least_column.Given as goal

abbrev pub invariant-loop-c : goal.invariant-loop-c
invariant-loop-c l = (k : ℕ) → k < l.c → numerator (slice_index_or l.gains k nought) ≤ℤ pos 0

use Rattle.std.proofs.Common.{◌<◌, ◌≤ℤ◌, ℕ, pos}
use Rattle.frac128.specs.Values.{numerator}
use Rattle.simplex.specs.Reading.{frac_at}
use Rattle.simplex_checked.proofs.rules.least_column.Given as goal

abbrev pub invariant-loop-c : goal.invariant-loop-c
invariant-loop-c l = (k : ℕ) → k < l.c → numerator (frac_at l.gains k) ≤ℤ pos 0

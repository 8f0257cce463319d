use Rattle.std.proofs.Common.{drop, map}
use Rattle.simplex_rows.proofs.Divisors.{CommonSoFar}
use Rattle.simplex_rows.proofs.few_dividing.common_divisor.Given as goal

abbrev pub invariant-loop-entry : goal.invariant-loop-entry
invariant-loop-entry l = CommonSoFar l.first (map (λ e. e.1) l.numbers) l.common (map (λ e. e.1) (drop l.entry-index l.numbers))

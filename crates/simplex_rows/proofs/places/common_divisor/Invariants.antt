use Rattle.std.proofs.Common.{drop}
use Rattle.simplex_rows.proofs.Divisors.{CommonSoFar}
use Rattle.simplex_rows.proofs.places.common_divisor.Given as goal

abbrev pub invariant-loop-number : goal.invariant-loop-number
invariant-loop-number l = CommonSoFar l.first l.numbers l.common (drop l.number-index l.numbers)

use Rattle.std.proofs.Common.{◌+◌, neg_ℤ}
use Rattle.frac128.specs.Values.{numerator, denominator}
use Rattle.simplex_rows.specs.Entries.{at}
use Rattle.simplex.specs.Reading.{HaveParts}
use Rattle.simplex.proofs.reading.negated_at.Given as goal

abbrev pub invariant-loop-i : goal.invariant-loop-i
invariant-loop-i l = HaveParts l.i (λ i. neg_ℤ (numerator (at (l.first + i) l.row))) (λ i. denominator (at (l.first + i) l.row)) l.all.items

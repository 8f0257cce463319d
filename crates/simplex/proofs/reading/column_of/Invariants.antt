use Rattle.frac128.specs.Values.{numerator, denominator}
use Rattle.simplex_rows.specs.Entries.{at}
use Rattle.simplex.specs.Standing.{entries_at}
use Rattle.simplex.specs.Reading.{HaveParts}
use Rattle.simplex.proofs.reading.column_of.Given as goal

abbrev pub invariant-loop-i : goal.invariant-loop-i
invariant-loop-i l = HaveParts l.i (λ i. numerator (at l.column (entries_at l.rows i))) (λ i. denominator (at l.column (entries_at l.rows i))) l.all.items

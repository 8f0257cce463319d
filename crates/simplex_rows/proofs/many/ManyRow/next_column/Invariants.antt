use Rattle.simplex_rows.proofs.ManyListing.{NoneYet}
use Rattle.simplex_rows.proofs.many.ManyRow.next_column.Given as goal

abbrev pub invariant-loop-place : goal.invariant-loop-place
invariant-loop-place l = NoneYet l.from l.place l.self-inside.numbers.items

use Rattle.simplex_rows.proofs.ManyListing.{ListingColumns}
use Rattle.simplex_rows.proofs.many.ManyRow.columns.Given as goal

abbrev pub invariant-loop-place : goal.invariant-loop-place
invariant-loop-place l = ListingColumns l.place l.self-inside.numbers.items l.all.items

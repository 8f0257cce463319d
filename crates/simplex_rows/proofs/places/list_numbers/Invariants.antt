use Rattle.simplex_rows.proofs.ManyListing.{Listing}
use Rattle.simplex_rows.proofs.places.list_numbers.Given as goal

abbrev pub invariant-loop-place : goal.invariant-loop-place
invariant-loop-place l = Listing l.place l.numbers l.all.items

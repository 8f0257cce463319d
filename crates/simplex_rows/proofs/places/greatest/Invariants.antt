use Rattle.simplex_rows.proofs.ManyDividing.{BoundFirst}
use Rattle.simplex_rows.proofs.places.greatest.Given as goal

abbrev pub invariant-loop-number : goal.invariant-loop-number
invariant-loop-number l = BoundFirst l.first l.most l.number-index l.numbers

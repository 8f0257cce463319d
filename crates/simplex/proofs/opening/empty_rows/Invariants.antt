use Rattle.simplex.specs.Opening.{AreEmpty}
use Rattle.simplex.proofs.opening.empty_rows.Given as goal

abbrev pub invariant-loop : goal.invariant-loop
invariant-loop l = AreEmpty l.counter l.rows.items

use Rattle.simplex.proofs.Opens.{RowsOpen}
use Rattle.simplex.proofs.opening.push_slacks_and_weights.Given as goal

abbrev pub invariant-loop-unknown : goal.invariant-loop-unknown
invariant-loop-unknown l = RowsOpen l.unknown l.system l.rows

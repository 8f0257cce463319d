use Rattle.simplex_rows.specs.Entries.{EndsBefore}
use Rattle.tests_solver.proofs.rows.stored.opened_gains.Given as goal

abbrev pub invariant-loop-column : goal.invariant-loop-column
invariant-loop-column l = EndsBefore l.column l.gains

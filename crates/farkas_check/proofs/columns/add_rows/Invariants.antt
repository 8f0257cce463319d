use Rattle.farkas_check.proofs.Walking.{RowsAdded}
use Rattle.farkas_check.proofs.columns.add_rows.Given as goal

abbrev pub invariant-loop-i : goal.invariant-loop-i
invariant-loop-i l = RowsAdded l.y l.rows l.i l.initial.totals l.totals

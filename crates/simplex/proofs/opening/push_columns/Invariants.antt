use Rattle.std.proofs.Common.{length}
use Rattle.simplex.specs.Opening.{ColumnsOpen}
use Rattle.simplex.proofs.opening.push_columns.Given as goal

abbrev pub invariant-loop-j : goal.invariant-loop-j
invariant-loop-j l = ColumnsOpen l.j (length l.initial.rows) l.inequalities l.rows

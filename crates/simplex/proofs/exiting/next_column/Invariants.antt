use Rattle.std.proofs.Common.{◌≤◌, take}
use Rattle.simplex.proofs.Narrowing.{NoneBetween}
use Rattle.simplex.proofs.exiting.next_column.Given as goal

abbrev pub invariant-loop-row : goal.invariant-loop-row
invariant-loop-row l = (l.from ≤ l.least) × (l.least ≤ l.right) × NoneBetween l.from l.least l.rows (take l.row-index l.among)

use Rattle.std.proofs.Common.{drop}
use Rattle.farkas_check.specs.Checks.{solving_rows}
use Rattle.farkas_check.proofs.Firsts.{Reduces}
use Rattle.farkas_check.proofs.fault.of_rows.Given as goal

abbrev pub invariant-loop-row : goal.invariant-loop-row
invariant-loop-row l = Reduces (solving_rows l.system.unknowns l.x l.fn.scale (drop l.row-index l.system.rows)) (solving_rows l.system.unknowns l.x l.fn.scale l.system.rows)

use Rattle.std.proofs.Common.{take}
use Rattle.simplex.specs.Ties.{AreTied}
use Rattle.simplex.proofs.exiting.ties.Given as goal

abbrev pub invariant-loop-row : goal.invariant-loop-row
invariant-loop-row l = AreTied l.entering l.column l.rows (take l.row-index l.among) l.tied.items l.least

use Rattle.std.proofs.Common.{take}
use Rattle.simplex.specs.Standing.{AmongSwept}
use Rattle.simplex.proofs.pivot.sweep_rows.Given as goal

abbrev pub invariant-loop-row : goal.invariant-loop-row
invariant-loop-row l = AmongSwept (take l.row-index l.among) l.entering l.lead l.initial.rows l.rows

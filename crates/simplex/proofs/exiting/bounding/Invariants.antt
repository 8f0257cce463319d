use Rattle.std.proofs.Common.{take}
use Rattle.simplex.specs.Among.{Among}
use Rattle.simplex.specs.Ties.{IsBounding}
use Rattle.simplex.proofs.Rows.{Picked}
use Rattle.simplex.proofs.exiting.bounding.Given as goal

abbrev pub invariant-loop-row : goal.invariant-loop-row
invariant-loop-row l = Picked (λ i. Among i (take l.row-index l.touching)) (IsBounding l.entering l.rows) l.all.items

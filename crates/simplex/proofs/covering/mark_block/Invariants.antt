use Rattle.std.proofs.Common.{[], ◌∷◌, take}
use Rattle.simplex.specs.Covering.{Grow}
use Rattle.simplex.proofs.covering.mark_block.Given as goal

abbrev pub invariant-loop-column : goal.invariant-loop-column
invariant-loop-column l = Grow l.blocks (take l.column-index l.columns) (l.block ∷ []) l.initial.marks l.marks

use Rattle.std.proofs.Common.{map, take}
use Rattle.simplex.specs.Covering.{block_of, Grow}
use Rattle.simplex.proofs.covering.mark_rows.Given as goal

abbrev pub invariant-loop-k : goal.invariant-loop-k
invariant-loop-k l = Grow l.blocks l.columns (take l.k (map block_of l.rows)) l.initial.marks l.marks

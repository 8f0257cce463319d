use Rattle.std.proofs.Common.{arith, [], ◌∷◌}
use Rattle.simplex.proofs.Marks.{column_more}
use Rattle.simplex.proofs.covering.mark_block.Goals as goal

pub loop-column-preserved : goal.loop-column-preserved
loop-column-preserved c = column_more c.args.blocks c.loop-column.column-index c.args.columns.now (c.args.block ∷ []) c.args.marks.now c.loop-column.marks c.mark.new.marks (omega arith) c.loop-column.invariant c.mark.ensures

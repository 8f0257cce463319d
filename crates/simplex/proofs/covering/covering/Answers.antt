use Rattle.std.proofs.Common.{arith, length, [], ◌∷◌}
use Rattle.simplex_rows.specs.Entries.{columns_of}
use Rattle.simplex.specs.Covering.{block_of, blocks_of, Grow}
use Rattle.simplex.proofs.Marks.{covered_more, marked_where_made}
use Rattle.simplex.proofs.Solves.{written_back}
use Rattle.simplex.proofs.covering.covering.Goals as goal

pub loop-i-preserved : goal.loop-i-preserved
loop-i-preserved c =
    let grow : Grow (blocks_of (length c.args.rows.now)) (columns_of c.index-rows-i.result) (block_of c.loop-i.i ∷ []) c.loop-i.marks.items c.mark_block.new.marks = rw (c.div_ceil-blocks.ensures, c.deref_mut.ensures.value, c.deref.ensures.value, c.in_ok-columns.ensures.columns) at c.mark_block.ensures in
    let back = written_back c.loop-i.marks.len c.loop-i.marks.items c.mark_block.new.marks c.loop-i.marks.ok.0 grow.places in
    rw back (covered_more c.args.columns c.loop-i.i c.args.rows.now c.index-rows-i.result c.loop-i.marks.items c.mark_block.new.marks (omega arith) c.index-rows-i.is c.loop-i.invariant grow)

pub returns-then-blocks-le1 : goal.returns-then-blocks-le1
returns-then-blocks-le1 c = marked_where_made c.args.columns c.args.rows.now c.marks.result (rw c.div_ceil-blocks.ensures at c.marks.ensures)

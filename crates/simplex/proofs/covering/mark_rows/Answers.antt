use Rattle.std.proofs.Common.{arith, ℕ, ◌≡◌, ◌<◌, length, map, List, get_or}
use Rattle.std.proofs.lemmas.List.{length-map, get_or-map}
use Rattle.simplex.specs.Covering.{block_of}
use Rattle.simplex.proofs.Marks.{block_more, block_again}
use Rattle.simplex.proofs.covering.mark_rows.Goals.{then-not-is_in_last_block, else-not-is_in_last_block}
use Rattle.simplex.proofs.covering.mark_rows.Goals as goal

pub loop-k-preserved : goal.loop-k-preserved
loop-k-preserved c =
    let k : ℕ = c.loop-k.k in
    let blocks : List ℕ = map block_of c.args.rows.now in
    let inside : k < length blocks = rw (length-map c.args.rows.now block_of) (omega arith) in
    let here : get_or blocks k 0 ≡ block_of (get_or c.args.rows.now k 0) = get_or-map block_of c.args.rows.now k 0 0 (omega arith) in
    elim c.if-not-is_in_last_block.branch [
      | then-not-is_in_last_block w ↦ rw w.marks-is (block_more c.args.blocks k c.args.columns.now blocks c.args.marks.now c.loop-k.marks w.mark_block.new.marks inside c.loop-k.invariant (rw here w.mark_block.ensures))
      | else-not-is_in_last_block w ↦ rw w.marks-is (block_again c.args.blocks k c.args.columns.now blocks c.args.marks.now c.loop-k.marks inside (rw here (c.is_in_last_block.ensures w.if-not-is_in_last_block.false)) c.loop-k.invariant)
    ]

use Rattle.std.proofs.Common.{◌≡◌, sym, arith, ℕ, ◌+◌, ◌*◌}
use Rattle.simplex.specs.declared.covering.TheConstants.{BLOCK}
use Rattle.simplex.proofs.Marks.{block_skipped}
use Rattle.simplex.proofs.covering.touching.Goals.{then-marks-first+in_ok-push_touching, else-marks-first}
use Rattle.simplex.proofs.covering.touching.Goals as goal

pub loop-block-preserved : goal.loop-block-preserved
loop-block-preserved c =
    let b : ℕ = c.loop-block.block in
    let end : b * BLOCK + BLOCK ≡ (b + 1) * BLOCK = omega arith in
    elim c.if-marks-first.branch [
      | then-marks-first+in_ok-push_touching w ↦ rw (w.all-is, sym end) w.in_ok-push_touching.ensures
      | else-marks-first w ↦ rw w.all-is (block_skipped c.args.s b c.args.rows.now c.args.marks.now c.loop-block.all.items (omega arith) c.requires.covers (rw c.div_ceil-blocks.ensures at w.if-marks-first.false) c.loop-block.invariant)
    ]

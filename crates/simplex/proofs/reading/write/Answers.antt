use Rattle.std.proofs.Common.{refl, arith, get_or}
use Rattle.simplex.proofs.Gains.{none_written, written_more, written_past, all_written}
use Rattle.simplex.proofs.reading.write.Goals.{then-place-all, else-place-all}
use Rattle.simplex.proofs.reading.write.Goals as goal

pub loop-column-init : goal.loop-column-init
loop-column-init c = none_written c.args.row.now c.args.all.now

pub loop-column-preserved : goal.loop-column-preserved
loop-column-preserved c = elim c.if-place-all.branch [
  | then-place-all w ↦ rw w.all-is (written_more c.loop-column.column-index (get_or c.args.columns.now c.loop-column.column-index 0) c.args.row.now c.args.columns.now c.args.all.now c.loop-column.all (omega arith) refl c.loop-column.invariant
      w.at.result (omega (arith, w.if-place-all.true)) w.at.ensures.num w.at.ensures.den)
  | else-place-all w ↦ rw w.all-is (written_past c.loop-column.column-index (get_or c.args.columns.now c.loop-column.column-index 0) c.args.row.now c.args.columns.now c.args.all.now c.loop-column.all (omega arith) refl c.loop-column.invariant (omega (arith, w.if-place-all.false)))
]

pub returns : goal.returns
returns c = all_written c.loop-column.column-index c.args.row.now c.args.columns.now c.args.all.now c.loop-column.all (omega arith) c.loop-column.invariant

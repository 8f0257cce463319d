use Rattle.tuple_ranks.proofs.Loops.{half_step}
use Rattle.tuple_ranks.proofs.slots.half_slots.Goals as goal

pub loop-from-preserved : goal.loop-from-preserved
loop-from-preserved c = half_step c.args.wanted c.args.marks.now _ _ _ c.loop-from.from c.args.width _ c.loop-from-test.true c.chosen.ensures c.in_ok-keep.ensures c.loop-from.invariant

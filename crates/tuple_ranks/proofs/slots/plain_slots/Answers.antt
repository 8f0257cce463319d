use Rattle.tuple_ranks.proofs.Loops.{plain_step}
use Rattle.tuple_ranks.proofs.slots.plain_slots.Goals as goal

pub loop-from-preserved : goal.loop-from-preserved
loop-from-preserved c = plain_step _ _ _ c.loop-from.from c.args.width c.loop-from-test.true c.in_ok-push.ensures.items c.loop-from.invariant

use Rattle.base_poly.proofs.Lengths.{range_step}
use Rattle.tuple_ranks.proofs.slots.up_to.Goals as goal

pub loop-k-preserved : goal.loop-k-preserved
loop-k-preserved c = range_step _ _ _ c.loop-k.k c.args.n c.loop-k-test.true c.in_ok-push.ensures.items c.loop-k.invariant

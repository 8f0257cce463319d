use Rattle.base_poly.proofs.Lengths.{range_step}
use Rattle.index_shift.proofs.lengths.lengths.Goals as goal

pub loop-n-preserved : goal.loop-n-preserved
loop-n-preserved c = range_step _ _ _ c.loop-n.n c.args.end c.loop-n-test.true c.in_ok-push.ensures.items c.loop-n.invariant

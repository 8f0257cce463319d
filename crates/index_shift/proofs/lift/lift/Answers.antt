use Rattle.std.proofs.Common.{◌+◌, arith}
use Rattle.index_shift.specs.Read.{counts_of, middles_of}
use Rattle.index_shift.proofs.Steps.{degrees_step}
use Rattle.index_shift.proofs.lift.lift.Goals as goal

pub loop-g-preserved : goal.loop-g-preserved
loop-g-preserved c =
    degrees_step (counts_of c.args.counts.now) (middles_of c.args.middles.now) c.loop-g.g (1 + c.args.d) _ _ _ (omega (arith, c.loop-g-test.true, c.from-g-end.ensures)) c.in_ok-append_degree.ensures c.loop-g.invariant

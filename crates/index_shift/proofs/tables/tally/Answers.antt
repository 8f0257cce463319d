use Rattle.std.proofs.Common.{◌+◌, arith}
use Rattle.index_shift.specs.Tables.{how_many}
use Rattle.index_shift.proofs.Steps.{listed_step}
use Rattle.index_shift.proofs.tables.tally.Goals as goal

pub loop-r-preserved : goal.loop-r-preserved
loop-r-preserved c =
    listed_step (λ r. how_many r c.args.degrees.now) _ _ _ c.loop-r.r (1 + c.args.d) _ (omega (arith, c.loop-r-test.true, c.from-r-end.ensures)) c.in_ok-count.ensures.all c.in_ok-push.ensures.ok c.loop-r.invariant

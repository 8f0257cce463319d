use Rattle.std.proofs.Common.{◌+◌, [], arith}
use Rattle.index_shift.proofs.Steps.{listed_step}
use Rattle.tuple_ranks.specs.Columns.{count}
use Rattle.tuple_ranks.proofs.columns.none.Goals as goal

pub loop-g-preserved : goal.loop-g-preserved
loop-g-preserved c =
    listed_step (count []) _ _ _ c.loop-g.g (1 + c.args.d) _ (omega (arith, c.loop-g-test.true, c.from-g-end.ensures)) c.alone.ensures c.in_ok-push.ensures.ok c.loop-g.invariant

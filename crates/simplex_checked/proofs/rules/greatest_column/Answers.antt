use Rattle.std.proofs.Common.{arith}
use Rattle.simplex_checked.proofs.Picking.{never, takes, passes, greatest_picked}
use Rattle.simplex_checked.proofs.rules.greatest_column.Goals as goal
use Rattle.simplex_checked.proofs.rules.greatest_column.Goals.{then-exceeds, else-exceeds}

pub loop-c-preserved : goal.loop-c-preserved
loop-c-preserved c =
    elim c.if-exceeds.branch [
      | then-exceeds w ↦
          rw (w.greatest-is, w.most-is)
          (takes c.args.gains.now c.loop-c.c c.loop-c.most c.loop-c.greatest c.loop-c.invariant c.index-gains-c.result c.loop-c-test.true c.index-gains-c.is (c.exceeds.ensures.0 w.if-exceeds.true))
      | else-exceeds w ↦
          rw (w.greatest-is, w.most-is)
          (passes c.args.gains.now c.loop-c.c c.loop-c.most c.loop-c.greatest c.loop-c.invariant c.index-gains-c.result c.loop-c-test.true c.index-gains-c.is (λ g. never _ w.if-exceeds.false (c.exceeds.ensures.1 g)))
    ]

pub returns-clause-picks : goal.returns-clause-picks
returns-clause-picks c = greatest_picked c.args.gains.now c.loop-c.c c.loop-c.most c.loop-c.greatest (omega (arith, c.loop-c-test.false)) c.loop-c.invariant

use Rattle.std.proofs.Common.{rules, ◌<ℤ◌, pos, arith}
use Rattle.frac128.specs.Values.{numerator}
use Rattle.simplex_checked.proofs.Picking.{least_picked, least_none}
use Rattle.simplex_checked.proofs.rules.least_column.Goals as goal

pub returns-then-num-gt0-clause-picks : goal.returns-then-num-gt0-clause-picks
returns-then-num-gt0-clause-picks c =
    let positive : pos 0 <ℤ numerator c.index-gains-c.result = search rules in
    least_picked c.args.gains.now c.loop-c.c c.index-gains-c.result c.loop-c-test.true c.index-gains-c.is positive c.loop-c.invariant

pub returns-clause-picks : goal.returns-clause-picks
returns-clause-picks c = least_none c.args.gains.now (λ k l. c.loop-c.invariant k (omega (arith, l, c.loop-c-test.false)))

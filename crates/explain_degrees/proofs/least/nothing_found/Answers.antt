use Rattle.std.proofs.Common.{arith}
use Rattle.explain_degrees.proofs.Found.{none_more}
use Rattle.explain_degrees.proofs.least.nothing_found.Goals as goal

pub loop-preserved : goal.loop-preserved
loop-preserved c =
    let count = c.loop.invariant.0 in
    let longer = c.in_ok-push.ensures.len in
    (omega (arith, count, longer), rw c.in_ok-push.ensures.items (none_more c.loop.functions.items c.none.result c.loop.invariant.1 c.none.ensures))

use Rattle.std.proofs.Common.{arith}
use Rattle.simplex.proofs.Marks.{clears_none, clears_more}
use Rattle.simplex.proofs.covering.clear.Goals as goal

pub loop-place-init : goal.loop-place-init
loop-place-init c = clears_none c.args.first c.args.marks.now

pub loop-place-preserved : goal.loop-place-preserved
loop-place-preserved c =
    let count = c.loop-place.invariant.places in
    clears_more c.args.first c.loop-place.place c.args.marks.now c.loop-place.marks (omega arith) (omega (arith, count)) c.loop-place.invariant

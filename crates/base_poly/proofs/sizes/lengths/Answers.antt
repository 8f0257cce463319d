use Rattle.std.proofs.Common.{◌+◌, length, ap, ◌∙◌, arith}
use Rattle.std.proofs.lemmas.List.FromFn.{length-range_with_len}
use Rattle.base_poly.proofs.Lengths.{range_step, range_ended}
use Rattle.base_poly.proofs.sizes.lengths.Goals as goal

pub loop-n-preserved : goal.loop-n-preserved
loop-n-preserved c = range_step _ _ _ c.loop-n.n c.args.d c.loop-n-test.true c.in_ok-push.ensures.items c.loop-n.invariant

pub returns-clause-all : goal.returns-clause-all
returns-clause-all c = c.in_ok-push-2.ensures.items ∙ range_ended _ c.loop-n.n c.args.d (omega (arith, c.loop-n-test.false)) c.loop-n.invariant

pub returns-clause-few : goal.returns-clause-few
returns-clause-few c =
    let all = range_ended _ c.loop-n.n c.args.d (omega (arith, c.loop-n-test.false)) c.loop-n.invariant in
    let long = ap length (c.in_ok-push-2.ensures.items ∙ all) ∙ length-range_with_len 0 (1 + c.args.d) in
    omega (arith, long, c.push-2.new.self.ok.0, c.if-from-most.false, c.from.ensures)

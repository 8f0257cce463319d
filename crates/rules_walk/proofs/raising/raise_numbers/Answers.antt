use Rattle.std.proofs.Common.{◌≡◌, ◌*◌, arith}
use Rattle.rules_spec.specs.Capped.{cap}
use Rattle.rules_walk.proofs.Rising.{one_more}
use Rattle.rules_walk.proofs.raising.raise_numbers.Goals as goal

pub loop-place-preserved : goal.loop-place-preserved
loop-place-preserved c =
    let is : c.saturating_mul.result ≡ cap (c.index.result.now * c.args.factor) = grind (arith, c.saturating_mul.ensures) in
    one_more (λ n. n) (λ n. cap (n * c.args.factor)) c.loop-place.place c.args.numbers.now.items c.loop-place.numbers.items c.index.result.now c.saturating_mul.result (omega (arith, c.loop-place-test.true, c.len-place-end.ensures)) c.loop-place.invariant c.index.ensures is

use Rattle.std.proofs.Common.{◌∷◌}
use Rattle.base_poly.proofs.Longer.{part_done}
use Rattle.base_poly.proofs.products.append_with_heads.Goals as goal

pub loop-first-preserved : goal.loop-first-preserved
loop-first-preserved c = part_done (λ k. c.args.tuples.now) ◌∷◌ 0 _ _ _ _ _ _ c.loop-first-test.true c.first-item.is c.in_ok-append_with_head.ensures.all c.loop-first.invariant

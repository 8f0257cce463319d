use Rattle.std.proofs.Common.{◌∙◌, ◌-◌, ◌+◌, ◌<◌, ◌≡◌, ap, arith}
use Rattle.std.proofs.lemmas.List.{map-append}
use Rattle.base_poly.specs.Read.{plains_of}
use Rattle.cost_free.specs.Read.{pieces_of}
use Rattle.cost_free.proofs.First.{last_step}
use Rattle.cost_free.proofs.cutting.last_piece.Goals as goal

pub loop-preserved : goal.loop-preserved
loop-preserved c =
    let n = c.args.count - c.loop.counter in
    let some : 0 < n = omega (arith, c.loop-test.true) in
    let fewer : c.args.count - (c.loop.counter + 1) ≡ n - 1 = omega arith in
    last_step (plains_of c.args.entries.now) n _ (pieces_of c.loop.pieces.items) _ _ some fewer
    (ap pieces_of c.in_ok-push.ensures.items ∙ map-append (λ p. plains_of p.now) c.loop.pieces.items _) c.loop.invariant

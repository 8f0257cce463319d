use Rattle.std.proofs.Common.{◌∙◌, ◌&&◌, ap, sym, arith}
use Rattle.cost_free.specs.Task.{Outcome}
use Rattle.cost_free.specs.Blocked.{is_among, row, pays_for}
use Rattle.cost_free.proofs.Passing.{one_passes}
use Rattle.cost_free.proofs.waiting.pays_at.Goals as goal

pub returns-then-pays_for : goal.returns-then-pays_for
returns-then-pays_for c = λ yes groups f among.
    let gives = λ (e : Outcome). pays_for c.args.meter e && is_among f (row groups e.0.group) in
    let pays = sym c.pays_for.ensures ∙ c.if-pays_for.true in
    let inside = ap (λ k. is_among f (row groups k)) c.if-done-place.true ∙ among in
    one_passes gives c.args.done.now c.loop-place.place _ (omega (arith, c.loop-place-test.true)) (λ i. pays i && inside i)

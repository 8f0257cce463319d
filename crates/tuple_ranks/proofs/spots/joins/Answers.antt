use Rattle.std.proofs.Common.{◌≡◌, length, rules, ap, ◌∷◌, [], ◌++◌, ◌∙◌}
use Rattle.tuple_ranks.specs.Slots.{behind_at, plain_slots}
use Rattle.tuple_ranks.proofs.Rows.{rows_step}
use Rattle.tuple_ranks.proofs.Behind.{behind_is}
use Rattle.tuple_ranks.proofs.spots.joins.Goals as goal

pub loop-preserved : goal.loop-preserved
loop-preserved c =
    let wide : c.len.result ≡ length c.args.first.now.columns = search rules in
    let whole : c.len-2.result ≡ length c.args.whole.now.columns = search rules in
    rows_step (behind_at c.args.first.now c.args.second.now c.args.whole.now c.args.last.now) c.rows.inside.count c.loop.counter c.rows.inside.width _ _ _ _ _ _ c.loop-test.true c.split.ensures.first c.split.ensures.rest
    (c.in_ok-push.ensures.items
    ∙ ap (λ p. c.loop.found.items ++ p ∷ [])
    (behind_is c.args.first.now c.args.second.now c.args.whole.now c.args.last.now c.split.result.0.now c.deref-in-loop.result.now c.deref-in-loop-2.result.now _ _
    (c.deref-in-loop.ensures.value ∙ c.in_ok-own.ensures ∙ ap (plain_slots 0) wide) (c.deref-in-loop-2.ensures.value ∙ c.in_ok-slots.ensures ∙ ap (plain_slots 0) whole) c.degree_at-degree.ensures c.in_ok-spots.ensures))
    c.loop.invariant

use Rattle.std.proofs.Common.{ap, ◌∷◌, [], ◌++◌, ◌∙◌}
use Rattle.tuple_ranks.specs.Columns.{place}
use Rattle.tuple_ranks.specs.Slots.{picked}
use Rattle.tuple_ranks.proofs.Rows.{rows_step}
use Rattle.tuple_ranks.proofs.spots.both_places.Goals as goal

pub loop-preserved : goal.loop-preserved
loop-preserved c =
    rows_step (λ ns. (place c.args.others.now.ranks (picked c.args.others.now.slots.items ns), place c.args.marked.now.ranks (picked c.args.marked.now.slots.items ns)))
    c.numbers.inside.count c.loop.counter c.numbers.inside.width _ _ _ _ _ _ c.loop-test.true c.split.ensures.first c.split.ensures.rest
    (c.in_ok-push.ensures.items
    ∙ (λ i. c.loop.found.items
    ++ (
      (c.place-other.ensures ∙ ap (λ s. place c.args.others.now.ranks (picked s c.split.result.0.now)) c.deref-in-loop.ensures.value) i,
      (c.place.ensures ∙ ap (λ s. place c.args.marked.now.ranks (picked s c.split.result.0.now)) c.deref-in-loop-2.ensures.value) i,
    ) ∷ []))
    c.loop.invariant

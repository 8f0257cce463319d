use Rattle.tuple_ranks.specs.Columns.{place}
use Rattle.tuple_ranks.specs.Slots.{picked}
use Rattle.tuple_ranks.proofs.Rows.{rows_step}
use Rattle.std.proofs.Common.{ap, ◌∷◌, [], ◌++◌, ◌∙◌}
use Rattle.tuple_ranks.proofs.spots.places.Goals as goal

pub loop-preserved : goal.loop-preserved
loop-preserved c =
    rows_step (λ ns. place c.args.ranks.now (picked c.args.slots.now ns)) c.numbers.inside.count c.loop.counter c.numbers.inside.width _ _ _ _ _ _ c.loop-test.true c.split.ensures.first c.split.ensures.rest
    (c.in_ok-push.ensures.items ∙ ap (λ p. c.loop.found.items ++ p ∷ []) c.place.ensures) c.loop.invariant

use Rattle.std.proofs.Common.{◌∙◌, slice_get, Some, ap}
use Rattle.tuple_ranks.specs.Columns.{led_by}
use Rattle.tuple_ranks.proofs.Standing.{as_many_slots, none_step}
use Rattle.tuple_ranks.proofs.ranks.stands.Goals as goal

pub returns-then-columns-slots : goal.returns-then-columns-slots
returns-then-columns-slots c = as_many_slots c.args.d c.args.columns.now c.args.slots.now c.args.numbers.now c.if-columns-slots.true

pub returns-in-None : goal.returns-in-None
returns-in-None c =
    none_step c.args.d c.loop-at.at c.args.columns.now c.args.slots.now c.args.numbers.now c.index-columns-at.result c.index-slots-at.result c.loop-at.state _ c.loop-at-test.true c.loop-at.invariant.within c.loop-at.invariant.as_many
    c.index-columns-at.is c.index-slots-at.is (c.led_by.ensures ∙ ap (λ n. led_by c.args.d c.index-columns-at.result n (slice_get c.index-columns-at.result.sizes n) (Some c.loop-at.state)) c.number.ensures) c.in-None.is c.loop-at.invariant.stand

use Rattle.std.proofs.Common.{◌≡◌, ◌-◌, ◌++◌}
use Rattle.tuple_ranks.specs.Slots.{plain_slots}
use Rattle.tuple_ranks.proofs.slots.plain_slots.Given as goal

abbrev pub invariant-loop-from : goal.invariant-loop-from
invariant-loop-from l = l.slots.items ++ plain_slots l.from (l.width - l.from) ≡ plain_slots 0 l.width

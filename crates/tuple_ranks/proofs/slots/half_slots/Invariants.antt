use Rattle.std.proofs.Common.{◌≡◌, ◌-◌, ◌++◌}
use Rattle.tuple_ranks.specs.Slots.{half_slots}
use Rattle.tuple_ranks.proofs.slots.half_slots.Given as goal

abbrev pub invariant-loop-from : goal.invariant-loop-from
invariant-loop-from l = l.slots.items ++ half_slots l.wanted l.marks l.from (l.width - l.from) ≡ half_slots l.wanted l.marks 0 l.width

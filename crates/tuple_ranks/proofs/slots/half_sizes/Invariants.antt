use Rattle.std.proofs.Common.{◌≡◌, ◌++◌, drop, map}
use Rattle.tuple_ranks.specs.Read.{items_of, lists_of}
use Rattle.tuple_ranks.specs.Slots.{half_items}
use Rattle.tuple_ranks.proofs.slots.half_sizes.Given as goal

abbrev pub invariant-loop-at : goal.invariant-loop-at
invariant-loop-at l = lists_of l.found.items ++ half_items l.wanted l.marks l.at (map items_of (drop l.at l.sizes)) ≡ half_items l.wanted l.marks 0 (map items_of l.sizes)

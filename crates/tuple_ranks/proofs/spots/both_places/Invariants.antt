use Rattle.std.proofs.Common.{◌≡◌, ◌++◌, ◌-◌, map}
use Rattle.tuple_ranks.specs.Columns.{place}
use Rattle.tuple_ranks.specs.Numbers.{cut}
use Rattle.tuple_ranks.specs.Slots.{picked}
use Rattle.tuple_ranks.proofs.spots.both_places.Given as goal

abbrev pub invariant-loop : goal.invariant-loop
invariant-loop l = l.found.items ++ map (λ ns. (place l.others.ranks (picked l.others.slots.items ns), place l.marked.ranks (picked l.marked.slots.items ns))) (cut (l.numbers-inside.count - l.counter) l.numbers-inside.width l.rest)
    ≡ map (λ ns. (place l.others.ranks (picked l.others.slots.items ns), place l.marked.ranks (picked l.marked.slots.items ns))) l.numbers

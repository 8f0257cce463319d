use Rattle.std.proofs.Common.{◌≡◌, ◌++◌, ◌-◌, map}
use Rattle.tuple_ranks.specs.Columns.{place}
use Rattle.tuple_ranks.specs.Numbers.{cut}
use Rattle.tuple_ranks.specs.Slots.{picked}
use Rattle.tuple_ranks.proofs.spots.spots_behind.Given as goal

abbrev pub invariant-loop : goal.invariant-loop
invariant-loop l = l.found.items ++ map (λ ns. place l.whole (picked l.slots (l.row ++ ns))) (cut (l.count - l.counter) l.last-inside.width l.rest) ≡ map (λ ns. place l.whole (picked l.slots (l.row ++ ns))) (cut l.count l.last-inside.width l.last-inside.numbers.items)

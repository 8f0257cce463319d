use Rattle.std.proofs.Common.{◌≡◌, ◌++◌, ◌-◌, map}
use Rattle.tuple_ranks.specs.Columns.{place}
use Rattle.tuple_ranks.specs.Numbers.{cut}
use Rattle.tuple_ranks.specs.Slots.{picked}
use Rattle.tuple_ranks.proofs.spots.places.Given as goal

abbrev pub invariant-loop : goal.invariant-loop
invariant-loop l = l.found.items ++ map (λ ns. place l.ranks (picked l.slots ns)) (cut (l.numbers-inside.count - l.counter) l.numbers-inside.width l.rest) ≡ map (λ ns. place l.ranks (picked l.slots ns)) l.numbers

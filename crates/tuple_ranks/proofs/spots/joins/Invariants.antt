use Rattle.std.proofs.Common.{◌≡◌, ◌++◌, ◌-◌, map}
use Rattle.tuple_ranks.specs.Numbers.{cut}
use Rattle.tuple_ranks.specs.Slots.{behind_at}
use Rattle.tuple_ranks.proofs.spots.joins.Given as goal

abbrev pub invariant-loop : goal.invariant-loop
invariant-loop l = l.found.items ++ map (behind_at l.first l.second l.whole l.last) (cut (l.rows-inside.count - l.counter) l.rows-inside.width l.rest) ≡ map (behind_at l.first l.second l.whole l.last) l.rows

use Rattle.std.proofs.Common.{◌≡◌, ◌++◌, drop, map}
use Rattle.tuple_ranks.specs.Read.{items_of, lists_of}
use Rattle.tuple_ranks.proofs.spots.lent.Given as goal

abbrev pub invariant-loop-row : goal.invariant-loop-row
invariant-loop-row l = lists_of l.found.items ++ map items_of (drop l.row-index l.sizes) ≡ map items_of l.sizes

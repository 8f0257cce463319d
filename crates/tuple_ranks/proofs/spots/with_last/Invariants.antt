use Rattle.std.proofs.Common.{◌≡◌, ◌++◌, drop}
use Rattle.tuple_ranks.specs.Columns.{sizes_in}
use Rattle.tuple_ranks.specs.Read.{lists_of}
use Rattle.tuple_ranks.proofs.spots.with_last.Given as goal

abbrev pub invariant-loop-column : goal.invariant-loop-column
invariant-loop-column l = lists_of l.found.items ++ sizes_in (drop l.column-index l.columns) ≡ sizes_in l.columns

use Rattle.std.proofs.Common.{◌≡◌, ◌++◌, map, drop, length}
use Rattle.call_groups.specs.Read.{lists_of, rows_of}
use Rattle.call_groups.specs.Sets.{below}
use Rattle.call_groups.proofs.groups.listed.Given as goal

abbrev pub invariant-loop-row : goal.invariant-loop-row
invariant-loop-row l = lists_of l.lists.items ++ map (below (length l.rows)) (rows_of (drop l.row-index l.rows)) ≡ map (below (length l.rows)) (rows_of l.rows)

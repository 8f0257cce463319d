use Rattle.std.proofs.Common.{length, ◌++◌}
use Rattle.simplex_rows.proofs.Appending.{Putting}
use Rattle.simplex_rows.proofs.wide.WideRow.put_each.Given as goal

abbrev pub invariant-loop-column : goal.invariant-loop-column
invariant-loop-column l = Putting (l.initial.self ++ l.initial.rest) l.self l.rest

abbrev pub decreases-loop-column : goal.decreases-loop-column
decreases-loop-column l = length l.rest

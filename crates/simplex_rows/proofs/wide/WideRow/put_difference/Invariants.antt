use Rattle.std.proofs.Common.{length}
use Rattle.simplex_rows.proofs.Walking.{Reached}
use Rattle.simplex_rows.proofs.wide.WideRow.put_difference.Given as goal

abbrev pub invariant-loop-column : goal.invariant-loop-column
invariant-loop-column l = Reached l.times l.initial.row l.initial.lead l.row l.lead l.self

abbrev pub decreases-loop-column : goal.decreases-loop-column
decreases-loop-column l = length l.lead

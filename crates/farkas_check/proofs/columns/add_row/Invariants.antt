use Rattle.farkas_check.proofs.Walking.{Walked}
use Rattle.farkas_check.proofs.columns.add_row.Given as goal

abbrev pub invariant-loop-term : goal.invariant-loop-term
invariant-loop-term l = Walked l.fn.y l.row.terms l.term-index l.initial.totals l.totals

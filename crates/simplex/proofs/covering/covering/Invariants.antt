use Rattle.simplex.proofs.Marks.{CoverFirst}
use Rattle.simplex.proofs.covering.covering.Given as goal

abbrev pub invariant-loop-i : goal.invariant-loop-i
invariant-loop-i l = CoverFirst l.columns l.i l.rows l.marks.items

use Rattle.simplex_rows.proofs.Quotients.{Divided}
use Rattle.simplex_rows.proofs.numbers.divide.Given as goal

abbrev pub invariant-loop-place : goal.invariant-loop-place
invariant-loop-place l = Divided l.by l.initial.entries l.entries l.place

use Rattle.simplex.specs.Covering.{Clears}
use Rattle.simplex.proofs.covering.clear.Given as goal

abbrev pub invariant-loop-place : goal.invariant-loop-place
invariant-loop-place l = Clears l.first l.place l.initial.marks l.marks

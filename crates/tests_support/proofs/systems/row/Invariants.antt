use Rattle.linear_rows.specs.Systems.{IsBelow}
use Rattle.tests_support.proofs.systems.row.Given as goal

abbrev pub invariant-loop-word : goal.invariant-loop-word
invariant-loop-word l = IsBelow l.unknowns l.row

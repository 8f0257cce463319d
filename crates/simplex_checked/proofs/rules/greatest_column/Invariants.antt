use Rattle.simplex_checked.proofs.Picking.{IsFound}
use Rattle.simplex_checked.proofs.rules.greatest_column.Given as goal

abbrev pub invariant-loop-c : goal.invariant-loop-c
invariant-loop-c l = IsFound l.gains l.c l.most l.greatest

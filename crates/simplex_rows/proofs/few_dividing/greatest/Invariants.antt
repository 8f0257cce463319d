use Rattle.std.proofs.Common.{drop}
use Rattle.simplex_rows.proofs.FewDividing.{GreatestSoFar}
use Rattle.simplex_rows.proofs.few_dividing.greatest.Given as goal

abbrev pub invariant-loop-entry : goal.invariant-loop-entry
invariant-loop-entry l = GreatestSoFar l.first l.numbers l.bound (drop l.entry-index l.numbers)

use Rattle.std.proofs.Common.{drop}
use Rattle.simplex_rows.proofs.Narrowing.{MultipleSoFar}
use Rattle.simplex_rows.proofs.narrow.common_denominator.Given as goal

abbrev pub invariant-loop-entry : goal.invariant-loop-entry
invariant-loop-entry l = MultipleSoFar l.entries l.common (drop l.entry-index l.entries)

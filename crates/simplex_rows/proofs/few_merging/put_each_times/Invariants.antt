use Rattle.std.proofs.Common.{drop}
use Rattle.simplex_rows.proofs.FewMerging.{PutSoFar}
use Rattle.simplex_rows.proofs.few_merging.put_each_times.Given as goal

abbrev pub invariant-loop-entry : goal.invariant-loop-entry
invariant-loop-entry l = PutSoFar l.p l.initial.made.items l.numbers l.made.items (drop l.entry-index l.numbers)

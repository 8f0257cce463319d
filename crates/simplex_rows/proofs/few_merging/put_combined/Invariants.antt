use Rattle.std.proofs.Common.{drop}
use Rattle.simplex_rows.proofs.FewMerging.{Reached}
use Rattle.simplex_rows.proofs.few_merging.put_combined.Given as goal

abbrev pub invariant-loop-entry : goal.invariant-loop-entry
invariant-loop-entry l = Reached l.p l.q l.initial.row l.lead l.row (drop l.entry-index l.lead) l.made.items

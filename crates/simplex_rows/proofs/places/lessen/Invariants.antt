use Rattle.std.proofs.Common.{drop}
use Rattle.simplex_rows.proofs.ManyChanging.{Lessening}
use Rattle.simplex_rows.proofs.places.lessen.Given as goal

abbrev pub invariant-loop-entry : goal.invariant-loop-entry
invariant-loop-entry l = Lessening l.q (drop l.entry-index l.lead) l.lead l.initial.numbers l.numbers

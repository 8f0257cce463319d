use Rattle.std.proofs.Common.{drop, unsigned_abs}
use Rattle.simplex_rows.proofs.Narrowing.{NarrowingSoFar}
use Rattle.simplex_rows.proofs.narrow.numbers_over.Given as goal

abbrev pub invariant-loop-entry : goal.invariant-loop-entry
invariant-loop-entry l = NarrowingSoFar (unsigned_abs l.den) l.entries l.numbers.items (drop l.entry-index l.entries)

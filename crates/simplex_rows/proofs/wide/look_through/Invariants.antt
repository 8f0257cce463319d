use Rattle.std.proofs.Common.{◌≡◌, drop}
use Rattle.simplex_rows.specs.Entries.{at}
use Rattle.simplex_rows.proofs.wide.look_through.Given as goal

abbrev pub invariant-loop-entry : goal.invariant-loop-entry
invariant-loop-entry l = at l.column (drop l.entry-index l.entries) ≡ at l.column l.entries

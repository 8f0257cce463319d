use Rattle.std.proofs.Common.{◌≡◌, drop}
use Rattle.simplex_rows.specs.ShortRows.{whole_at}
use Rattle.simplex_rows.proofs.few.look_through.Given as goal

abbrev pub invariant-loop-entry : goal.invariant-loop-entry
invariant-loop-entry l = whole_at l.column (drop l.entry-index l.entries) ≡ whole_at l.column l.entries

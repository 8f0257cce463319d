use Rattle.std.proofs.Common.{◌≡◌, take}
use Rattle.simplex_rows.specs.Entries.{columns_of}
use Rattle.simplex_rows.proofs.wide.WideRow.columns.Given as goal

abbrev pub invariant-loop-entry : goal.invariant-loop-entry
invariant-loop-entry l = l.all.items ≡ columns_of (take l.entry-index l.entry-items)

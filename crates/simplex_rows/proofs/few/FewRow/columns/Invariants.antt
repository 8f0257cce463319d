use Rattle.std.proofs.Common.{◌≡◌, take, map}
use Rattle.simplex_rows.proofs.few.FewRow.columns.Given as goal

abbrev pub invariant-loop-entry : goal.invariant-loop-entry
invariant-loop-entry l = l.all.items ≡ map (λ e. e.0) (take l.entry-index l.entry-items)

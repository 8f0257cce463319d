use Rattle.std.proofs.Common.{◌≡◌, drop}
use Rattle.other_blocks.specs.Leaving.{entries_fit}
use Rattle.other_blocks.proofs.leaving.entries_fit.Given as goal

abbrev pub invariant-loop-entry : goal.invariant-loop-entry
invariant-loop-entry l =
    entries_fit l.factor (drop l.entry-index l.entries) ≡ entries_fit l.factor l.entries

use Rattle.std.proofs.Common.{◌≡◌, take}
use Rattle.rules_walk.proofs.entries.copies.Given as goal

abbrev pub invariant-loop-entry : goal.invariant-loop-entry
invariant-loop-entry g l = l.out.items ≡ take l.entry-index l.entries

use Rattle.std.proofs.Common.{◌≡◌, ◌++◌, drop}
use Rattle.rules_plan.specs.Entries.{restricted}
use Rattle.rules_plan.proofs.entries.restricted.Given as goal

abbrev pub invariant-loop-entry : goal.invariant-loop-entry
invariant-loop-entry l = l.found.items ++ restricted l.froms l.tos (drop l.entry-index l.entries) ≡ restricted l.froms l.tos l.entries

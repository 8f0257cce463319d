use Rattle.std.proofs.Common.{◌≡◌, ◌++◌, drop}
use Rattle.rules_plan.specs.Entries.{placed_at}
use Rattle.rules_plan.proofs.entries.placed.Given as goal

abbrev pub invariant-loop-from : goal.invariant-loop-from
invariant-loop-from l = l.found.items ++ placed_at l.limit l.from (drop l.from l.targets) ≡ placed_at l.limit 0 l.targets

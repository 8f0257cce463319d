use Rattle.std.proofs.Common.{◌≡◌, ◌++◌, drop}
use Rattle.rules_plan.specs.Entries.{picked_at}
use Rattle.rules_plan.proofs.entries.picked.Given as goal

abbrev pub invariant-loop-from : goal.invariant-loop-from
invariant-loop-from l = l.found.items ++ picked_at l.first l.limit l.from (drop l.from l.halves) ≡ picked_at l.first l.limit 0 l.halves

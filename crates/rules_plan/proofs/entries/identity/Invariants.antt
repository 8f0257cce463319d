use Rattle.std.proofs.Common.{◌≡◌, ◌-◌, ◌++◌, map}
use Rattle.std.specs.List.{range_with_len}
use Rattle.rules_plan.specs.Entries.{entry}
use Rattle.rules_plan.proofs.entries.identity.Given as goal

abbrev pub invariant-loop-k : goal.invariant-loop-k
invariant-loop-k l = l.found.items ++ map (λ k. entry k k) (range_with_len l.k (l.size - l.k)) ≡ map (λ k. entry k k) (range_with_len 0 l.size)

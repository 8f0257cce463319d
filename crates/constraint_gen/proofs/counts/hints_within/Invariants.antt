use Rattle.std.proofs.Common.{◌≡◌, ◌≤◌, ◌+◌, drop, map}
use Rattle.rules_walk.specs.Asks.{asks_of}
use Rattle.constraint_gen.specs.Given.{all_counts}
use Rattle.constraint_gen.proofs.counts.hints_within.Given as goal

abbrev pub invariant-loop-asked : goal.invariant-loop-asked
invariant-loop-asked l =
    (l.sum ≤ l.most) × (l.sum + all_counts (map (λ a. asks_of a.items) (drop l.asked-index l.asks)) ≡ l.count + all_counts (map (λ a. asks_of a.items) l.asks))

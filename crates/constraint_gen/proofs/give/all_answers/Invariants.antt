use Rattle.std.proofs.Common.{◌≡◌, ◌+◌, ◌++◌, drop, map}
use Rattle.rules_walk.specs.Asks.{asks_of}
use Rattle.rules_walk.specs.Read.{hints_of}
use Rattle.constraint_gen.specs.Sums.{unknown}
use Rattle.constraint_gen.specs.Given.{all_counts, all_answers}
use Rattle.constraint_gen.proofs.give.all_answers.Given as goal

abbrev pub invariant-loop-asked : goal.invariant-loop-asked
invariant-loop-asked l =
    (map (λ h. hints_of h.items) l.made.items ++ all_answers unknown l.next (map (λ a. asks_of a.items) (drop l.asked-index l.asks)) ≡ all_answers unknown l.fn.next (map (λ a. asks_of a.items) l.asks))
    × (l.next + all_counts (map (λ a. asks_of a.items) (drop l.asked-index l.asks)) ≡ l.fn.next + all_counts (map (λ a. asks_of a.items) l.asks))

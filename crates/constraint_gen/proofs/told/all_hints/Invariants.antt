use Rattle.std.proofs.Common.{◌≡◌, ◌+◌, ◌++◌, drop, map}
use Rattle.annot_types.specs.Read.{hints_of}
use Rattle.rules_walk.specs.Asks.{asks_of}
use Rattle.rules_spec.specs.Told as t
use Rattle.constraint_gen.specs.Given.{all_counts, all_answers}
use Rattle.constraint_gen.specs.Numbers.{numbers}
use Rattle.constraint_gen.proofs.told.all_hints.Given as goal

abbrev pub invariant-loop-asked : goal.invariant-loop-asked
invariant-loop-asked l =
    (map hints_of l.made.items ++ map (map t.hint) (all_answers (numbers l.solution) l.next (map (λ a. asks_of a.items) (drop l.asked-index l.asks))) ≡ map (map t.hint) (all_answers (numbers l.solution) l.fn.next (map (λ a. asks_of a.items) l.asks)))
    × (l.next + all_counts (map (λ a. asks_of a.items) (drop l.asked-index l.asks)) ≡ l.fn.next + all_counts (map (λ a. asks_of a.items) l.asks))

use Rattle.std.proofs.Common.{◌≡◌, ◌+◌, ◌++◌, drop, map}
use Rattle.annot_types.specs.Read.{hint_of}
use Rattle.rules_spec.specs.Asked.{answers, counts}
use Rattle.rules_walk.specs.Asks.{asks_of}
use Rattle.rules_spec.specs.Told as t
use Rattle.constraint_gen.specs.Numbers.{numbers}
use Rattle.constraint_gen.proofs.told.hints.Given as goal

abbrev pub invariant-loop-ask : goal.invariant-loop-ask
invariant-loop-ask l =
    (map hint_of l.made.items ++ map t.hint (answers (numbers l.solution) l.next (asks_of (drop l.ask-index l.asks))) ≡ map t.hint (answers (numbers l.solution) l.fn.next (asks_of l.asks)))
    × (l.next + counts (asks_of (drop l.ask-index l.asks)) ≡ l.fn.next + counts (asks_of l.asks))

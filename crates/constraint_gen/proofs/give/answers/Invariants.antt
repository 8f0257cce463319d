use Rattle.std.proofs.Common.{◌≡◌, ◌+◌, ◌++◌, drop}
use Rattle.rules_spec.specs.Asked.{answers, counts}
use Rattle.rules_walk.specs.Asks.{asks_of}
use Rattle.rules_walk.specs.Read.{hints_of}
use Rattle.constraint_gen.specs.Sums.{unknown}
use Rattle.constraint_gen.proofs.give.answers.Given as goal

abbrev pub invariant-loop-ask : goal.invariant-loop-ask
invariant-loop-ask l =
    (hints_of l.made.items ++ answers unknown l.next (asks_of (drop l.ask-index l.asks)) ≡ answers unknown l.fn.next (asks_of l.asks))
    × (l.next + counts (asks_of (drop l.ask-index l.asks)) ≡ l.fn.next + counts (asks_of l.asks))

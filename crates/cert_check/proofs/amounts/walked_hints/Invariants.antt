use Rattle.std.proofs.Common.{◌≡◌, ◌++◌, drop, map}
use Rattle.annot_types.specs.Read.{hint_of}
use Rattle.rules_spec.specs.Capped.{capped_amount}
use Rattle.rules_spec.specs.Carried.{hint_to}
use Rattle.rules_spec.specs.Shape.{hints_at}
use Rattle.rules_walk.specs.Asks.{asks_of}
use Rattle.rules_walk.specs.Read.{hints_of}
use Rattle.cert_check.proofs.amounts.walked_hints.Given as goal

abbrev pub invariant-loop-ask : goal.invariant-loop-ask
invariant-loop-ask l =
    hints_of l.made.items ++ map (hint_to capped_amount) (hints_at (asks_of (drop l.ask-index l.asks)) (map hint_of l.told))
    ≡ map (hint_to capped_amount) (hints_at (asks_of l.asks) (map hint_of l.fn.told))

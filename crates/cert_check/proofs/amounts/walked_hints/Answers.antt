use Rattle.std.proofs.Common.{ap, drop, map, arith}
use Rattle.std.proofs.lemmas.List.{length-map}
use Rattle.annot_types.specs.Read.{hint_of}
use Rattle.rules_spec.specs.Capped.{capped_amount}
use Rattle.rules_spec.specs.Carried.{hint_to}
use Rattle.rules_walk.specs.Asks.{asks_of}
use Rattle.rules_walk.specs.Read.{hints_of}
use Rattle.cert_check.proofs.Ended.{all_made, no_hints}
use Rattle.cert_check.proofs.amounts.walked_hints.Goals as goal

pub returns-in_default : goal.returns-in_default
returns-in_default c = all_made (hints_of c.loop-ask.made.items) _ _
    (ap (map (hint_to capped_amount)) (no_hints (asks_of (drop c.loop-ask.ask-index c.args.asks.now)) (map hint_of c.loop-ask.told.now)
    (omega (arith, c.in_default.len_below, length-map c.loop-ask.told.now hint_of)))) c.loop-ask.invariant

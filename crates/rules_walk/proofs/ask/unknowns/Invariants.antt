use Rattle.std.proofs.Common.{◌≡◌, ◌≤◌, ◌+◌, drop}
use Rattle.rules_spec.specs.Asked.{counts}
use Rattle.rules_walk.specs.Asks.{asks_of}
use Rattle.rules_walk.proofs.ask.unknowns.Given as goal

abbrev pub invariant-loop-ask : goal.invariant-loop-ask
invariant-loop-ask l = record {
  low : l.count ≤ l.most;
  same : l.count + counts (asks_of (drop l.ask-index l.asks)) ≡ counts (asks_of l.asks);
}

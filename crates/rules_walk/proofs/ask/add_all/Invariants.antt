use Rattle.std.proofs.Common.{◌≡◌, ◌≤◌, ◌+◌, drop}
use Rattle.rules_spec.specs.Asked.{sum_of}
use Rattle.rules_walk.proofs.ask.add_all.Given as goal

abbrev pub invariant-loop-size : goal.invariant-loop-size
invariant-loop-size l = record {
  low : l.sum ≤ l.most;
  same : l.sum + sum_of (drop l.size-index l.sizes) ≡ l.count + sum_of l.sizes;
}

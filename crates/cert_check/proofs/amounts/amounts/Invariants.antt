use Rattle.std.proofs.Common.{◌≡◌, ◌≤◌, drop, length, map}
use Rattle.rules_spec.specs.Capped.{capped_amount}
use Rattle.rules_spec.specs.Shape.{amounts_at}
use Rattle.cert_check.proofs.amounts.amounts.Given as goal

abbrev pub invariant-loop-left : goal.invariant-loop-left
invariant-loop-left l = record {
  within : l.left ≤ length l.entries;
  numbers : l.made.items ≡ map capped_amount (amounts_at l.size (drop l.left l.entries));
}

abbrev pub decreases-loop-left : goal.decreases-loop-left
decreases-loop-left l = l.left

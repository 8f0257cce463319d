use Rattle.std.proofs.Common.{◌≡◌, ◌≤◌, drop, length}
use Rattle.annot_types.specs.Certificate.{annotation}
use Rattle.rules_spec.specs.Found.{listed}
use Rattle.rules_walk.proofs.signatures.numbers.Given as goal

abbrev pub invariant-loop-left : goal.invariant-loop-left
invariant-loop-left l = record {
  within : l.left ≤ length l.entries;
  numbers : l.numbers.items ≡ listed l.size (annotation (drop l.left l.entries));
}

abbrev pub decreases-loop-left : goal.decreases-loop-left
decreases-loop-left l = l.left

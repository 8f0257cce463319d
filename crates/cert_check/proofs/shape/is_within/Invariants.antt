use Rattle.std.proofs.Common.{◌↔◌, drop}
use Rattle.rules_spec.specs.Stand.{Within}
use Rattle.cert_check.proofs.shape.is_within.Given as goal

abbrev pub invariant-loop-position : goal.invariant-loop-position
invariant-loop-position l = Within l.size (drop l.position-index l.position-items) ↔ Within l.size l.annot

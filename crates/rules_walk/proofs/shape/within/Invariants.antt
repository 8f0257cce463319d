use Rattle.std.proofs.Common.{◌↔◌, drop}
use Rattle.rules_spec.specs.Stand.{Within}
use Rattle.rules_walk.proofs.shape.within.Given as goal

abbrev pub invariant-loop-position : goal.invariant-loop-position
invariant-loop-position l = Within l.size (drop l.position-index l.entries) ↔ Within l.size l.entries

use Rattle.std.proofs.Common.{◌↔◌, drop}
use Rattle.rules_spec.specs.Shape.{EachWithin}
use Rattle.rules_walk.proofs.shape.each_within.Given as goal

abbrev pub invariant-loop-number : goal.invariant-loop-number
invariant-loop-number l = EachWithin (drop l.number l.sizes) (drop l.number l.results) ↔ EachWithin l.sizes l.results

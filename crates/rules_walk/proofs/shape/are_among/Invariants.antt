use Rattle.std.proofs.Common.{◌↔◌, drop}
use Rattle.rules_spec.specs.Shape.{AreAmong}
use Rattle.rules_walk.proofs.shape.are_among.Given as goal

abbrev pub invariant-loop-block : goal.invariant-loop-block
invariant-loop-block l = AreAmong l.blocks (drop l.block-index l.multiples) ↔ AreAmong l.blocks l.multiples

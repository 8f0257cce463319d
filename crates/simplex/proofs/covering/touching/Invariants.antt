use Rattle.std.proofs.Common.{◌*◌, take}
use Rattle.simplex.specs.declared.covering.TheConstants.{BLOCK}
use Rattle.simplex.specs.Standing.{AreTouching}
use Rattle.simplex.proofs.covering.touching.Given as goal

abbrev pub invariant-loop-block : goal.invariant-loop-block
invariant-loop-block l = AreTouching l.s (take (l.block * BLOCK) l.rows) l.all.items

use Rattle.std.proofs.Common.{take}
use Rattle.simplex.specs.Standing.{AreTouching}
use Rattle.simplex.proofs.covering.push_touching.Given as goal

abbrev pub invariant-loop-i : goal.invariant-loop-i
invariant-loop-i l = AreTouching l.s (take l.i l.rows) l.all.items

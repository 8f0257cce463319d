use Rattle.std.proofs.Common.{map}
use Rattle.simplex.specs.Opening.{OpensTo}
use Rattle.simplex.proofs.opening.push_right_sides.Given as goal

abbrev pub invariant-loop-j : goal.invariant-loop-j
invariant-loop-j l = OpensTo l.j (map (λ row. row.right) l.rows) l.gains

use Rattle.std.proofs.Common.{drop, map}
use Rattle.farkas_check.specs.Totals.{products}
use Rattle.farkas_check.proofs.Carrying.{Carries}
use Rattle.farkas_check.proofs.totals.Totals.with_right_sides.Given as goal

abbrev pub invariant-loop-i : goal.invariant-loop-i
invariant-loop-i l = Carries l.fn.self l.totals (products l.y (map (λ row. row.right) l.rows)) (products (drop l.i l.y) (map (λ row. row.right) (drop l.i l.rows)))

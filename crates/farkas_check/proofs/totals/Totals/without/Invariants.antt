use Rattle.std.proofs.Common.{drop, map, neg_ℤ}
use Rattle.farkas_check.specs.Totals.{products}
use Rattle.farkas_check.proofs.Carrying.{Carries}
use Rattle.farkas_check.proofs.totals.Totals.without.Given as goal

abbrev pub invariant-loop-i : goal.invariant-loop-i
invariant-loop-i l = Carries l.fn.self l.totals (map neg_ℤ (products l.weights l.x)) (map neg_ℤ (products (drop l.i l.weights) (drop l.i l.x)))

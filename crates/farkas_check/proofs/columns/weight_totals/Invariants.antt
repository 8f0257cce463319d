use Rattle.std.proofs.Common.{[], ◌∷◌, get_or, pos, neg_ℤ, ◌*ℤ◌}
use Rattle.farkas_check.specs.Sides.{AreTotals}
use Rattle.farkas_check.proofs.columns.weight_totals.Given as goal

abbrev pub invariant-loop-weight : goal.invariant-loop-weight
invariant-loop-weight l = AreTotals l.weight-index (λ u. neg_ℤ (l.fn.scale *ℤ get_or l.fn.weights u (pos 0)) ∷ []) l.totals.items

use Rattle.std.proofs.Common.{rules, FitsSigned, sym, subst, ℕ, ◌+◌, ℤ, List, [], ◌∷◌, get_or, neg_ℤ, ◌*ℤ◌, pos}
use Rattle.std.proofs.lemmas.Int.{to_z-of_z}
use Rattle.std.specs.Int.{w128}
use Rattle.farkas_check.specs.Sides.{AreTotals}
use Rattle.farkas_check.proofs.Walking.{totals_more}
use Rattle.farkas_check.proofs.columns.weight_totals.Goals as goal

pub loop-weight-preserved : goal.loop-weight-preserved
loop-weight-preserved c =
    let k : ℕ = c.loop-weight.weight-index in
    let w : List ℤ = c.args.weights.now in
    let e = to_z-of_z w128 c.args.scale c.ranges.scale in
    let f : FitsSigned w128 (get_or w k (pos 0)) = search rules in
    let before = subst (λ (t : ℤ). AreTotals k (λ u. neg_ℤ (t *ℤ get_or w u (pos 0)) ∷ []) c.loop-weight.totals.items) e c.loop-weight.invariant in
    let is = simp (e, to_z-of_z w128 _ f) at c.weight_total.ensures in
    subst (λ (t : ℤ). AreTotals (k + 1) (λ u. neg_ℤ (t *ℤ get_or w u (pos 0)) ∷ []) c.push.new.self.items) (sym e)
    (totals_more k (λ u. neg_ℤ (c.args.scale *ℤ get_or w u (pos 0)) ∷ []) c.loop-weight.totals.items c.push.new.self.items c.weight_total.result c.in_ok-push.ensures.items is before)

use Rattle.std.proofs.Common.{[], ◌∷◌, get_or, pos, neg_ℤ, ◌*ℤ◌, FitsSigned, rules}
use Rattle.std.proofs.lemmas.Int.{to_z-of_z}
use Rattle.std.specs.Int.{w128}
use Rattle.farkas_check.specs.Checks.{column}
use Rattle.farkas_check.specs.Totals.{products}
use Rattle.farkas_check.proofs.Joining.{moved_on, left_before}
use Rattle.farkas_check.proofs.columns.dual_total.Goals as goal

pub returns-in_err-weight : goal.returns-in_err-weight
returns-in_err-weight c =
    let f : FitsSigned w128 (get_or c.weights-weights.result.now c.args.unknown (pos 0)) = search rules in
    let is = rw c.weights-weights.ensures.all at (simp (to_z-of_z w128 _ c.ranges.scale, to_z-of_z w128 _ f) at c.in_err-weight.ensures) in
    rw c.from_residual.ensures (left_before (neg_ℤ (c.args.scale *ℤ get_or c.args.system.now.weights c.args.unknown (pos 0)) ∷ []) (products c.args.y.now (column c.args.unknown c.args.system.now.rows)) is)

pub returns : goal.returns
returns c =
    let f : FitsSigned w128 (get_or c.weights-weights.result.now c.args.unknown (pos 0)) = search rules in
    let is = rw c.weights-weights.ensures.all at (simp (to_z-of_z w128 _ c.ranges.scale, to_z-of_z w128 _ f) at c.in_ok-weight.ensures) in
    let m = rw c.rows.ensures.all at c.with_column.ensures in
    moved_on (neg_ℤ (c.args.scale *ℤ get_or c.args.system.now.weights c.args.unknown (pos 0)) ∷ []) (products c.args.y.now (column c.args.unknown c.args.system.now.rows)) c.in_ok-weight.weight c.with_column.result is m

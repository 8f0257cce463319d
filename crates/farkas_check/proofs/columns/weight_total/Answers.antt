use Rattle.std.proofs.Common.{FitsSigned, pos, [], ◌∷◌, ◌-ℤ◌, ◌*ℤ◌, ◌≤ℤ◌, arith}
use Rattle.std.proofs.lemmas.Int.{ints, to_z-of_z}
use Rattle.std.specs.Int.{w128}
use Rattle.farkas_check.proofs.Joining.{negated, moved_on}
use Rattle.farkas_check.proofs.Unrolling.{negative_fits}
use Rattle.farkas_check.proofs.columns.weight_total.Goals as goal

pub returns : goal.returns
returns c =
    let low : pos 0 ≤ℤ c.args.scale = omega (arith, ints) in
    let h : FitsSigned w128 (pos 0 -ℤ c.args.scale) = negative_fits c.args.scale low c.ranges.scale in
    let m = simp (to_z-of_z w128 _ h) at (simp (to_z-of_z w128 _ c.ranges.scale, to_z-of_z w128 _ c.ranges.weight) at c.with.ensures) in
    rw (← negated c.args.scale c.args.weight) (moved_on [] (((pos 0 -ℤ c.args.scale) *ℤ c.args.weight) ∷ []) c.zero.result c.with.result c.zero.ensures m)

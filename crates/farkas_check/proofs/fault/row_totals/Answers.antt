use Rattle.std.proofs.Common.{rules, ap, FitsSigned, pos, ◌+ℤ◌, ◌-ℤ◌, ◌≤ℤ◌, neg_ℤ, ◌*ℤ◌, ℤ, arith, refl, ◌∷◌, length}
use Rattle.std.proofs.lemmas.Int.{ints, to_z-of_z}
use Rattle.std.specs.Int.{w128}
use Rattle.farkas_check.specs.Totals.{gain, loss}
use Rattle.farkas_check.specs.Sides.{sparse_products}
use Rattle.farkas_check.proofs.Joining.{first_leaves, first_goes, same_totals}
use Rattle.farkas_check.proofs.Unrolling.{negative_fits}
use Rattle.farkas_check.proofs.Spreading.{all_inside, spread_all}
use Rattle.farkas_check.proofs.fault.row_totals.Goals as goal

pub returns-in_err-totals : goal.returns-in_err-totals
returns-in_err-totals c =
    let low : pos 0 ≤ℤ c.args.scale = omega (arith, ints) in
    let h : FitsSigned w128 (pos 0 -ℤ c.args.scale) = negative_fits c.args.scale low c.ranges.scale in
    let f : FitsSigned w128 c.right.result = search rules in
    let m = simp c.right.ensures at (simp (to_z-of_z w128 _ h) at (simp (to_z-of_z w128 _ c.ranges.scale, to_z-of_z w128 _ f) at c.in_err-totals.ensures)) in
    rw c.from_residual.ensures (first_leaves c.args.scale c.args.row.now.right _ c.zero.result c.zero.ensures m)

pub with_terms-requires : goal.with_terms-requires
with_terms-requires c = rw c.terms.ensures.all (all_inside _ c.args.row.now c.terms.ensures.sparse c.requires.below)

pub returns : goal.returns
returns c =
    let low : pos 0 ≤ℤ c.args.scale = omega (arith, ints) in
    let h : FitsSigned w128 (pos 0 -ℤ c.args.scale) = negative_fits c.args.scale low c.ranges.scale in
    let f : FitsSigned w128 c.right.result = search rules in
    let m = simp c.right.ensures at (simp (to_z-of_z w128 _ h) at (simp (to_z-of_z w128 _ c.ranges.scale, to_z-of_z w128 _ f) at c.in_ok-totals.ensures)) in
    let n = rw c.terms.ensures.all at c.with_terms.ensures in
    let inside = all_inside (length c.args.x.now) c.args.row.now c.terms.ensures.sparse c.requires.below in
    let z = neg_ℤ (c.args.scale *ℤ c.args.row.now.right) in
    same_totals (z ∷ sparse_products c.args.row.now.terms c.args.x.now) _ c.with_terms.result
    (ap (λ (v : ℤ). gain z +ℤ v) (spread_all gain refl c.args.row.now.terms c.args.x.now c.terms.ensures.sparse inside))
    (ap (λ (v : ℤ). loss z +ℤ v) (spread_all loss refl c.args.row.now.terms c.args.x.now c.terms.ensures.sparse inside))
    (first_goes c.args.scale c.args.row.now.right (sparse_products c.args.row.now.terms c.args.x.now) c.zero.result c.in_ok-totals.totals c.with_terms.result c.zero.ensures m n)

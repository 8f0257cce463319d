use Rattle.std.proofs.Common.{rules, FitsSigned, get_or, pos, ◌-ℤ◌, arith, ◌<◌, length}
use Rattle.std.proofs.lemmas.Int.{to_z-of_z}
use Rattle.std.specs.Int.{w128}
use Rattle.farkas_check.proofs.Carrying.{further, too_far}
use Rattle.farkas_check.proofs.Unrolling.{weight_next, natural_at, negative_fits}
use Rattle.farkas_check.proofs.totals.Totals.without.Goals as goal

pub overflow_sub-x : goal.overflow_sub-x
overflow_sub-x c =
    let g : FitsSigned w128 (get_or c.args.x.now c.loop-i.i (pos 0)) = search rules in
    let l : c.loop-i.i < length c.args.x.now = omega arith in
    simp (to_z-of_z w128 _ g) (negative_fits _ (natural_at _ _ c.requires.natural l) g)

pub returns-in_err-totals : goal.returns-in_err-totals
returns-in_err-totals c =
    let f : FitsSigned w128 (get_or c.args.weights.now c.loop-i.i (pos 0)) = search rules in
    let g : FitsSigned w128 (get_or c.args.x.now c.loop-i.i (pos 0)) = search rules in
    let l : c.loop-i.i < length c.args.x.now = omega arith in
    let h : FitsSigned w128 (pos 0 -ℤ get_or c.args.x.now c.loop-i.i (pos 0)) = negative_fits _ (natural_at _ _ c.requires.natural l) g in
    let m = simp (to_z-of_z w128 _ h) at (simp (to_z-of_z w128 _ f, to_z-of_z w128 _ g) at c.in_err-totals.ensures) in
    rw c.from_residual.ensures (too_far _ _ _ _ _ _ (weight_next c.args.weights.now c.args.x.now c.loop-i.i c.loop-i-test.true c.requires.one_each) c.loop-i.invariant m)

pub loop-i-preserved : goal.loop-i-preserved
loop-i-preserved c =
    let f : FitsSigned w128 (get_or c.args.weights.now c.loop-i.i (pos 0)) = search rules in
    let g : FitsSigned w128 (get_or c.args.x.now c.loop-i.i (pos 0)) = search rules in
    let l : c.loop-i.i < length c.args.x.now = omega arith in
    let h : FitsSigned w128 (pos 0 -ℤ get_or c.args.x.now c.loop-i.i (pos 0)) = negative_fits _ (natural_at _ _ c.requires.natural l) g in
    let m = simp (to_z-of_z w128 _ h) at (simp (to_z-of_z w128 _ f, to_z-of_z w128 _ g) at c.in_ok-totals.ensures) in
    further _ _ _ _ _ _ _ (weight_next c.args.weights.now c.args.x.now c.loop-i.i c.loop-i-test.true c.requires.one_each) c.loop-i.invariant m

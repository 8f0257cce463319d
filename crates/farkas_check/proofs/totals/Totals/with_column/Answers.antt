use Rattle.std.proofs.Common.{rules, FitsSigned, get_or, pos}
use Rattle.std.proofs.lemmas.Int.{to_z-of_z}
use Rattle.std.specs.Int.{w128}
use Rattle.farkas_check.proofs.Carrying.{further, too_far}
use Rattle.farkas_check.proofs.Unrolling.{column_next}
use Rattle.farkas_check.proofs.totals.Totals.with_column.Goals as goal

pub returns-in_err-totals : goal.returns-in_err-totals
returns-in_err-totals c =
    let f : FitsSigned w128 (get_or c.args.y.now c.loop-i.i (pos 0)) = search rules in
    let g : FitsSigned w128 c.coefficient.result = search rules in
    let m = rw c.coefficient.ensures at (simp (to_z-of_z w128 _ f, to_z-of_z w128 _ g) at c.in_err-totals.ensures) in
    let next = column_next c.args.unknown c.args.y.now c.args.rows.now c.loop-i.i c.index-rows-i.result c.loop-i-test.true c.requires c.index-rows-i.is in
    rw c.from_residual.ensures (too_far _ _ _ _ _ _ next c.loop-i.invariant m)

pub loop-i-preserved : goal.loop-i-preserved
loop-i-preserved c =
    let f : FitsSigned w128 (get_or c.args.y.now c.loop-i.i (pos 0)) = search rules in
    let g : FitsSigned w128 c.coefficient.result = search rules in
    let m = rw c.coefficient.ensures at (simp (to_z-of_z w128 _ f, to_z-of_z w128 _ g) at c.in_ok-totals.ensures) in
    let next = column_next c.args.unknown c.args.y.now c.args.rows.now c.loop-i.i c.index-rows-i.result c.loop-i-test.true c.requires c.index-rows-i.is in
    further _ _ _ _ _ _ _ next c.loop-i.invariant m

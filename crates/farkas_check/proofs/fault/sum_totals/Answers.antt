use Rattle.std.proofs.Common.{[], None, Some, map, neg_ℤ}
use Rattle.linear_rows.specs.Systems.{right_sides}
use Rattle.farkas_check.specs.Totals.{products}
use Rattle.farkas_check.specs.Sides.{IsTotals}
use Rattle.farkas_check.proofs.Joining.{moved_on, left_before}
use Rattle.farkas_check.proofs.fault.sum_totals.Goals as goal

pub returns-in_err-totals : goal.returns-in_err-totals
returns-in_err-totals c =
    let is : IsTotals (products c.args.y.now (map (λ row. row.right) c.rows.result.now)) None = moved_on [] (products c.args.y.now (map (λ row. row.right) c.rows.result.now)) c.zero.result None c.zero.ensures c.in_err-totals.ensures in
    let js = rw c.rows.ensures.all at is in
    rw c.from_residual.ensures (left_before _ _ js)

pub returns : goal.returns
returns c =
    let is : IsTotals (products c.args.y.now (map (λ row. row.right) c.rows.result.now)) (Some c.in_ok-totals.totals) = moved_on [] (products c.args.y.now (map (λ row. row.right) c.rows.result.now)) c.zero.result (Some c.in_ok-totals.totals) c.zero.ensures c.in_ok-totals.ensures in
    let js = rw c.rows.ensures.all at is in
    let n = rw c.weights.ensures.all at c.without.ensures in
    moved_on (products c.args.y.now (right_sides c.args.system.now)) (map neg_ℤ (products c.args.system.now.weights c.args.x.now)) c.in_ok-totals.totals c.without.result js n

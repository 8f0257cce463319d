use Rattle.farkas_check.specs.Totals.{products}
use Rattle.farkas_check.specs.Sides.{IsTotals}
use Rattle.std.proofs.Common.{[], map}
use Rattle.farkas_check.proofs.Joining.{moved_on}
use Rattle.farkas_check.proofs.fault.of_right_sides.Goals as goal

pub returns : goal.returns
returns c =
    let is : IsTotals (products c.args.y.now (map (λ row. row.right) c.rows.result.now)) c.with_right_sides-totals.result = moved_on [] (products c.args.y.now (map (λ row. row.right) c.rows.result.now)) c.zero.result c.with_right_sides-totals.result c.zero.ensures c.with_right_sides-totals.ensures in
    let js = rw c.rows.ensures.all at is in
    let fault = c.of_check.ensures _ js in
    rw c.unknowns.ensures at fault

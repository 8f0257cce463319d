use Rattle.std.proofs.Common.{[]}
use Rattle.farkas_check.specs.Checks.{column}
use Rattle.farkas_check.specs.Totals.{products}
use Rattle.farkas_check.proofs.Joining.{moved_on}
use Rattle.farkas_check.proofs.columns.column_total.Goals as goal

pub returns : goal.returns
returns c =
    let m = rw c.rows.ensures.all at c.with_column.ensures in
    moved_on [] (products c.args.y.now (column c.args.unknown c.args.system.now.rows)) c.zero.result c.with_column.result c.zero.ensures m

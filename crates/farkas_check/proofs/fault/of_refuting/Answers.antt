use Rattle.std.proofs.Common.{sym}
use Rattle.farkas_check.proofs.Firsts.{found_first, found_next, single}
use Rattle.farkas_check.proofs.fault.of_refuting.Goals as goal

pub returns-then-is_some : goal.returns-then-is_some
returns-then-is_some c = found_first _ _ _ (sym c.if-is_some.ensures) c.of_columns_with-fault.ensures

pub returns : goal.returns
returns c = found_next _ _ _ _ (sym c.if-is_some.ensures) c.of_columns_with-fault.ensures (single _ _ c.of_right_sides.ensures)

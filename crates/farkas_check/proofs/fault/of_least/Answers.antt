use Rattle.std.proofs.Common.{sym}
use Rattle.std.proofs.lemmas.Int.{to_z-of_z}
use Rattle.std.specs.Int.{w128}
use Rattle.farkas_check.proofs.Firsts.{found_first, found_next, single}
use Rattle.farkas_check.proofs.fault.of_least.Goals as goal

pub returns-then-is_some-clause-first : goal.returns-then-is_some-clause-first
returns-then-is_some-clause-first c =
    let rows = simp (to_z-of_z w128 _ c.ranges.scale) at c.of_rows-rows.ensures.first in
    found_first _ _ _ (sym c.if-is_some.ensures) rows

pub returns-then-is_some-2-clause-first : goal.returns-then-is_some-2-clause-first
returns-then-is_some-2-clause-first c =
    let rows = simp (to_z-of_z w128 _ c.ranges.scale) at c.of_rows-rows.ensures.first in
    let columns = simp (to_z-of_z w128 _ c.ranges.scale) at c.of_dual_columns_with-columns.ensures in
    found_next _ _ _ _ (sym c.if-is_some.ensures) rows (found_first _ _ _ (sym c.if-is_some-2.ensures) columns)

pub returns-clause-first : goal.returns-clause-first
returns-clause-first c =
    let rows = simp (to_z-of_z w128 _ c.ranges.scale) at c.of_rows-rows.ensures.first in
    let columns = simp (to_z-of_z w128 _ c.ranges.scale) at c.of_dual_columns_with-columns.ensures in
    found_next _ _ _ _ (sym c.if-is_some.ensures) rows (found_next _ _ _ _ (sym c.if-is_some-2.ensures) columns (single _ _ c.of_sums.ensures))

use Rattle.std.proofs.Common.{sym}
use Rattle.std.proofs.lemmas.Int.{to_z-of_z}
use Rattle.std.specs.Int.{w128}
use Rattle.farkas_check.proofs.Firsts.{next, found}
use Rattle.farkas_check.proofs.Checklists.{rows_next, below_at}
use Rattle.farkas_check.proofs.fault.of_rows.Goals as goal

pub row_totals-totals-requires-clause-below : goal.row_totals-totals-requires-clause-below
row_totals-totals-requires-clause-below c =
    let at = rw c.rows-rows.ensures.all at c.row-item.is in
    let h = rw c.rows-rows.ensures.all at c.loop-row-test.true in
    rw c.requires.one_each (below_at c.args.system.now.unknowns c.args.system.now.rows c.loop-row.row-index c.row-item.result c.rows-rows.ensures.sound.below h at)

pub returns-then-is_some-clause-first : goal.returns-then-is_some-clause-first
returns-then-is_some-clause-first c =
    let at = rw c.rows-rows.ensures.all at c.row-item.is in
    let h = rw c.rows-rows.ensures.all at c.loop-row-test.true in
    let is = rw c.requires.one_each at (simp (to_z-of_z w128 _ c.ranges.scale) at c.row_totals-totals.ensures) in
    let all = c.of_check-fault.ensures _ is in
    let fault = rw c.unknowns-unknowns.ensures at all in
    let inv = simp (to_z-of_z w128 _ c.ranges.scale) at c.loop-row.invariant in
    found _ _ _ _ c.of_check-fault.result (sym c.if-is_some.ensures) (rows_next c.args.system.now.unknowns c.args.x.now c.args.scale c.args.system.now.rows c.loop-row.row-index c.row-item.result h at) fault inv

pub loop-row-preserved : goal.loop-row-preserved
loop-row-preserved c =
    let at = rw c.rows-rows.ensures.all at c.row-item.is in
    let h = rw c.rows-rows.ensures.all at c.loop-row-test.true in
    let is = rw c.requires.one_each at (simp (to_z-of_z w128 _ c.ranges.scale) at c.row_totals-totals.ensures) in
    let all = c.of_check-fault.ensures _ is in
    let fault = rw c.unknowns-unknowns.ensures at all in
    let inv = simp (to_z-of_z w128 _ c.ranges.scale) at c.loop-row.invariant in
    simp (to_z-of_z w128 _ c.ranges.scale) (next _ _ _ _ c.of_check-fault.result (sym c.if-is_some.ensures) (rows_next c.args.system.now.unknowns c.args.x.now c.args.scale c.args.system.now.rows c.loop-row.row-index c.row-item.result h at) fault inv)

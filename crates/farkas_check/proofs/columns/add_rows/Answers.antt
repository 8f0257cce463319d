use Rattle.std.proofs.Common.{rules, FitsSigned, length, get_or, pos}
use Rattle.std.proofs.lemmas.Int.{to_z-of_z}
use Rattle.std.specs.Int.{w128}
use Rattle.farkas_check.proofs.Checklists.{below_at}
use Rattle.farkas_check.proofs.Walking.{rows_more, rows_added}
use Rattle.farkas_check.proofs.columns.add_rows.Goals as goal

pub add_row-requires : goal.add_row-requires
add_row-requires c = rw c.loop-i.invariant.count (below_at (length c.args.totals.now) c.args.rows.now c.loop-i.i c.index-rows-i.result c.requires.below c.loop-i-test.true c.index-rows-i.is)

pub loop-i-preserved : goal.loop-i-preserved
loop-i-preserved c =
    let f : FitsSigned w128 (get_or c.args.y.now c.loop-i.i (pos 0)) = search rules in
    let m = simp (to_z-of_z w128 _ f) at c.add_row.ensures in
    rows_more c.args.y.now c.args.rows.now c.loop-i.i c.index-rows-i.result c.args.totals.now c.loop-i.totals c.add_row.new.totals c.loop-i-test.true c.requires.one_each c.index-rows-i.is c.loop-i.invariant m

pub returns : goal.returns
returns c = rows_added c.args.y.now c.args.rows.now c.loop-i.i c.args.totals.now c.loop-i.totals c.loop-i-test.false c.requires.one_each c.loop-i.invariant

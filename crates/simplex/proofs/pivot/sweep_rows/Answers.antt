use Rattle.std.proofs.Common.{rules, refl, ap, Err, arith, ℕ, ◌<◌, ◌≤◌, length, get_or}
use Rattle.simplex.proofs.Rows.{among_at}
use Rattle.simplex.proofs.Sweeping.{one_more, row_leaves, all_swept}
use Rattle.simplex.proofs.pivot.sweep_rows.Goals as goal

pub bounds-rows-row : goal.bounds-rows-row
bounds-rows-row c = let h = c.requires.inside (get_or c.args.among.now c.loop-row.row-index 0) (among_at c.args.among.now c.loop-row.row-index 0 (omega arith)) in let n = c.loop-row.invariant.count in omega arith

pub offset_bounds-rows-row : goal.offset_bounds-rows-row
offset_bounds-rows-row c =
    let h = c.requires.inside (get_or c.args.among.now c.loop-row.row-index 0) (among_at c.args.among.now c.loop-row.row-index 0 (omega arith)) in
    let n = c.loop-row.invariant.count in
    let inside : get_or c.args.among.now c.loop-row.row-index 0 < length c.loop-row.rows = omega arith in
    search rules

pub returns-in-Err-clause-leaves : goal.returns-in-Err-clause-leaves
returns-in-Err-clause-leaves c i k e =
    let j : ℕ = get_or c.args.among.now c.loop-row.row-index 0 in
    let inside = c.requires.inside j (among_at c.args.among.now c.loop-row.row-index 0 (omega arith)) in
    let f = c.in_row.ensures i k (cc) in
    let g = ap Err f.1 in
    row_leaves c.loop-row.row-index j i k c.args.entering c.args.among.now c.args.lead.now c.args.rows.now c.loop-row.rows c.index-rows-row.result (omega arith) c.requires.differ refl inside c.loop-row.invariant f.0 (c.in-Err.ensures.touched k g) (c.in-Err.ensures.leaves k g)

pub loop-row-preserved : goal.loop-row-preserved
loop-row-preserved c =
    let j : ℕ = get_or c.args.among.now c.loop-row.row-index 0 in
    let inside = c.requires.inside j (among_at c.args.among.now c.loop-row.row-index 0 (omega arith)) in
    one_more c.loop-row.row-index j c.args.entering c.args.among.now c.args.lead.now c.args.rows.now c.loop-row.rows c.sweep.new.self (omega arith) c.requires.differ refl inside c.loop-row.invariant c.index-rows-row.result c.in_default.ensures.swept

pub returns-clause-swept : goal.returns-clause-swept
returns-clause-swept c =
    let past : length c.args.among.now ≤ c.loop-row.row-index = omega arith in
    all_swept c.loop-row.row-index c.args.entering c.args.among.now c.args.lead.now c.args.rows.now c.loop-row.rows past c.loop-row.invariant

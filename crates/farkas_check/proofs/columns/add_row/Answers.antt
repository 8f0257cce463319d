use Rattle.std.proofs.Common.{rules, FitsSigned, arith, length, get_or, ℤ, ◌*ℤ◌, pos, subst}
use Rattle.std.proofs.lemmas.Int.{ints, to_z-of_z}
use Rattle.std.specs.Int.{w128}
use Rattle.linear_rows.specs.Terms.{unknown_at, number_at}
use Rattle.farkas_check.proofs.Spreading.{all_inside}
use Rattle.farkas_check.proofs.Walking.{Walked, nothing_added, total_moved, walked_more, row_walked}
use Rattle.farkas_check.proofs.columns.add_row.Goals as goal

pub returns-then-y-eq0 : goal.returns-then-y-eq0
returns-then-y-eq0 c = nothing_added c.args.y c.args.row.now c.args.totals.now (grind (arith, ints, to_z-of_z w128 c.args.y c.ranges.y, c.if-y-eq0.true))

pub bounds-totals-unknown : goal.bounds-totals-unknown
bounds-totals-unknown c =
    let h = rw c.terms-term-items.ensures.all at c.loop-term-test.true in
    let inside = all_inside (length c.args.totals.now) c.args.row.now c.terms-term-items.ensures.sparse c.requires c.loop-term.term-index h in
    rw (c.terms-term-items.ensures.all, c.loop-term.invariant.count) inside

pub bounds-totals-unknown-in-loop-term : goal.bounds-totals-unknown-in-loop-term
bounds-totals-unknown-in-loop-term c =
    let h = rw c.terms-term-items.ensures.all at c.loop-term-test.true in
    let inside = all_inside (length c.args.totals.now) c.args.row.now c.terms-term-items.ensures.sparse c.requires c.loop-term.term-index h in
    rw (c.terms-term-items.ensures.all, c.loop-term.invariant.count) inside

pub loop-term-preserved : goal.loop-term-preserved
loop-term-preserved c =
    let e = to_z-of_z w128 c.args.y c.ranges.y in
    let f : FitsSigned w128 (get_or c.terms-term-items.result.now c.loop-term.term-index (0, pos 0)).1 = search rules in
    let h = rw c.terms-term-items.ensures.all at c.loop-term-test.true in
    let inside = all_inside (length c.args.totals.now) c.args.row.now c.terms-term-items.ensures.sparse c.requires c.loop-term.term-index h in
    let w = subst (λ (y : ℤ). Walked y c.args.row.now.terms c.loop-term.term-index c.args.totals.now c.loop-term.totals) e c.loop-term.invariant in
    let m = rw c.terms-term-items.ensures.all at (simp (e, to_z-of_z w128 _ f) at c.moved.ensures) in
    let read = rw c.terms-term-items.ensures.all at c.index-totals-unknown.is in
    let n = total_moved c.loop-term.totals (unknown_at c.args.row.now.terms c.loop-term.term-index) c.index-totals-unknown.result (c.args.y *ℤ number_at c.args.row.now.terms c.loop-term.term-index) c.moved.result (rw c.loop-term.invariant.count inside) read m in
    rw (e, c.terms-term-items.ensures.all) (walked_more c.args.y c.args.row.now.terms c.loop-term.term-index c.args.totals.now c.loop-term.totals c.moved.result c.terms-term-items.ensures.sparse h inside n w)

pub returns : goal.returns
returns c =
    let past = rw c.terms-term-items.ensures.all at c.loop-term-test.false in
    let w = subst (λ (y : ℤ). Walked y c.args.row.now.terms c.loop-term.term-index c.args.totals.now c.loop-term.totals) (to_z-of_z w128 c.args.y c.ranges.y) c.loop-term.invariant in
    row_walked c.args.y c.args.row.now c.loop-term.term-index c.args.totals.now c.loop-term.totals c.terms-term-items.ensures.sparse past w

use Rattle.std.proofs.Common.{rules, ◌≡◌, ap, ◌∙◌, arith, length, get_or, Err}
use Rattle.std.specs.Fn.{FnReturnsAt}
use Rattle.simplex.specs.Solving.{rule_of, Below}
use Rattle.simplex_spec.specs.Tableaux.{right}
use Rattle.simplex.specs.Covering.{blocks_of}
use Rattle.simplex.proofs.Marks.{column_inside}
use Rattle.simplex.proofs.Rows.{none_among, among_at}
use Rattle.simplex.proofs.Solves.{reaches_end, is_cut, reaches_rise, making_refuses, made_reaches, one_longer, basis_long, stops}
use Rattle.simplex.proofs.solver.make_step.Goals as goal

pub returns-in-None-clause-step : goal.returns-in-None-clause-step
returns-in-None-clause-step g c =
    let gains = c.deref.result.now in
    let parts = rw (← c.deref.ensures.value) at c.requires.ready.seen in
    (reaches_end (FnReturnsAt g.F.Fn c.args.chooser.now) c.requires.chooses c.args.system.now c.requires.sound c.args.table.now c.requires.reached gains parts c.in-None.ensures, c.requires.limit)

pub touching-requires-clause-column : goal.touching-requires-clause-column
touching-requires-clause-column g c =
    let gains = c.deref.result.now in
    let parts = rw (← c.deref.ensures.value) at c.requires.ready.seen in
    let inside = (c.requires.chooses.some gains c.in-Some.column c.in-Some.ensures).0 in
    let count = parts.count in
    let places = c.requires.ready.cover.places in
    let low = column_inside (right c.args.system.now) (blocks_of (length c.args.table.now.rows.items)) c.in-Some.column (omega arith) in
    rw (c.deref-3.ensures.value, c.deref-2.ensures.value) (omega (arith, places, low))

pub touching-requires-clause-covers : goal.touching-requires-clause-covers
touching-requires-clause-covers g c =
    let gains = c.deref.result.now in
    let parts = rw (← c.deref.ensures.value) at c.requires.ready.seen in
    let inside = (c.requires.chooses.some gains c.in-Some.column c.in-Some.ensures).0 in
    let count = parts.count in
    rw (c.deref-3.ensures.value, c.deref-2.ensures.value) (c.requires.ready.cover.all c.in-Some.column (omega arith))

pub returns-then-is_empty-clause-step : goal.returns-then-is_empty-clause-step
returns-then-is_empty-clause-step g c =
    let gains = c.deref.result.now in
    let parts = rw (← c.deref.ensures.value) at c.requires.ready.seen in
    let bound = rw c.deref-4.ensures.value at c.in_ok-bounding.ensures in
    let none : length c.bounding.new.all.items ≡ 0 = search rules in
    (reaches_rise (FnReturnsAt g.F.Fn c.args.chooser.now) c.requires.chooses c.args.system.now c.requires.sound c.args.table.now c.requires.reached gains parts c.in-Some.column c.in-Some.ensures (λ i b. none_among i c.bounding.new.all.items none (bound.all i b)), c.requires.limit)

pub returns-then-is_limit-clause-step : goal.returns-then-is_limit-clause-step
returns-then-is_limit-clause-step g c =
    let gains = c.deref.result.now in
    let parts = rw (← c.deref.ensures.value) at c.requires.ready.seen in
    let bound = rw c.deref-4.ensures.value at c.in_ok-bounding.ensures in
    let long : length c.args.table.now.pivots.items ≡ c.len.result = (let n = c.len.ensures in let k = c.args.table.now.pivots.ok.0 in omega arith) in
    let all = c.bounding.new.all.items in
    (c.len.result, c.is_limit.ensures.reached c.if-is_limit.true, is_cut (FnReturnsAt g.F.Fn c.args.chooser.now) c.requires.chooses c.args.system.now c.requires.sound c.args.table.now c.requires.reached gains parts c.in-Some.column c.in-Some.ensures c.len.result (get_or all 0 0) long (bound.only (get_or all 0 0) (among_at all 0 0 (search rules))))

pub make_pivot-requires-clause-basis : goal.make_pivot-requires-clause-basis
make_pivot-requires-clause-basis g c = basis_long (rule_of g.F.Fn c.args.chooser.now) c.args.system.now c.args.table.now c.requires.sound c.requires.reached

pub stopped-requires : goal.stopped-requires
stopped-requires g c i k e =
    let gains = c.deref.result.now in
    let parts = rw (← c.deref.ensures.value) at c.requires.ready.seen in
    let w = c.in-Err.ensures.leaves i k (ap Err e) in
    let q = making_refuses (FnReturnsAt g.F.Fn c.args.chooser.now) c.requires.chooses c.args.system.now c.requires.sound c.args.table.now c.requires.reached gains parts c.in-Some.column c.in-Some.ensures i k w.leaves in
    let most = q.1 in
    let columns = c.requires.columns in
    omega arith

pub returns-in-Ok-clause-step : goal.returns-in-Ok-clause-step
returns-in-Ok-clause-step g c =
    let gains = c.deref.result.now in
    let parts = rw (← c.deref.ensures.value) at c.requires.ready.seen in
    let made = c.in-Ok.ensures.made in
    let longer = ap length made.pivots_are ∙ one_longer c.args.table.now.pivots.items (made.row, c.in-Some.column) in (
      made_reaches (FnReturnsAt g.F.Fn c.args.chooser.now) c.requires.chooses c.args.system.now c.requires.sound c.args.table.now c.requires.reached gains parts c.in-Some.column c.in-Some.ensures c.make_pivot.new.table made,
      longer,
      λ m q. let l = c.is_limit.ensures.below c.if-is_limit.false m q in let n = c.len.ensures in let k = c.args.table.now.pivots.ok.0 in omega arith,
    )

pub returns-in-Err-clause-step : goal.returns-in-Err-clause-step
returns-in-Err-clause-step g c = stops (rule_of g.F.Fn c.args.chooser.now) c.args.system.now c.args.most c.args.table.now c.make_pivot.new.table c.in-Err.fault c.stopped.result (λ i k e.
    let gains = c.deref.result.now in
    let parts = rw (← c.deref.ensures.value) at c.requires.ready.seen in
    let w = c.in-Err.ensures.leaves i k (ap Err e) in
    let q = making_refuses (FnReturnsAt g.F.Fn c.args.chooser.now) c.requires.chooses c.args.system.now c.requires.sound c.args.table.now c.requires.reached gains parts c.in-Some.column c.in-Some.ensures i k w.leaves in
    let stay = ap length w.pivots_stay in
    let below : Below c.args.most (length c.make_pivot.new.table.pivots.items) = (λ m b. let l = c.is_limit.ensures.below c.if-is_limit.false m b in let n = c.len.ensures in let h = c.args.table.now.pivots.ok.0 in omega arith) in
    (rw w.pivots_stay q.0, below)) c.stopped.ensures

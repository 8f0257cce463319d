use Rattle.std.proofs.Common.{◌≡◌, subst}
use Rattle.simplex_rows.specs.Merging.{MergeLeaves}
use Rattle.simplex_rows.proofs.Walking.{room, ends_there, goes_on, stops, last_room, ended}
use Rattle.simplex_rows.proofs.wide.WideRow.put_difference.Goals as goal

pub put_all-requires : goal.put_all-requires
put_all-requires c = room c.args.times.now _ _ _ _ _ c.loop-column.invariant c.in-Some.column c.in-Some.q _ c.in-Some.ensures.some _ _ c.take_before.ensures.all c.take_before.ensures.before

pub put-requires : goal.put-requires
put-requires c = rw c.in_ok-put_all.ensures.added (ends_there c.args.times.now _ _ _ _ _ c.loop-column.invariant c.in-Some.column c.in-Some.q _ c.in-Some.ensures.some _ _ c.take_before.ensures.all c.take_before.ensures.before)

pub loop-column-preserved : goal.loop-column-preserved
loop-column-preserved c = goes_on c.args.times.now _ _ _ _ _ c.loop-column.invariant c.in-Some.column c.in-Some.q _ c.in-Some.ensures.some _ _ c.take_before.ensures.all c.take_before.ensures.before
    c.take_before.ensures.from c.take-x.result c.take-x.new.self c.take-x.ensures c.in-Some-less.number c.put.new.self c.in-Some-less.ensures (rw c.in_ok-put_all.ensures.added at c.in_ok-put-in-Some-less.ensures.added)

pub returns-in-None-clause-leaves : goal.returns-in-None-clause-leaves
returns-in-None-clause-leaves c k e =
    let same : c.in-Some.column ≡ k = cc in
    subst (MergeLeaves c.args.times.now c.args.row c.args.lead) same (stops c.args.times.now _ _ _ _ _ c.loop-column.invariant c.in-Some.column c.in-Some.q _ c.in-Some.ensures.some _ _ c.take_before.ensures.all c.take_before.ensures.before
    c.take_before.ensures.from c.take-x.result c.take-x.new.self c.take-x.ensures c.in-None.ensures)

pub put_all-requires-2 : goal.put_all-requires-2
put_all-requires-2 c = last_room c.args.times.now _ _ _ _ _ c.loop-column.invariant c.in_default.ensures.none

pub returns-clause-merged : goal.returns-clause-merged
returns-clause-merged c = rw c.in_ok-put_all-2.ensures.added (ended c.args.times.now _ _ _ _ _ c.loop-column.invariant c.in_default.ensures.none)

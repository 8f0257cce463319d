use Rattle.std.proofs.Common.{◌≡◌, ◌++◌, ◌∷◌, [], length, ap, ◌∙◌, rules}
use Rattle.call_groups.specs.Read.{ids_of, lists_of, rows_of}
use Rattle.call_groups.specs.Sets.{has, none, joined, below}
use Rattle.call_groups.specs.Table.{waits, IsNext}
use Rattle.call_groups.proofs.Lists.{lists_push}
use Rattle.call_groups.proofs.Ordered.{next_read, front_step, step_smaller}
use Rattle.call_groups.proofs.groups.in_order.Goals as goal

pub loop-fun-smaller : goal.loop-fun-smaller
loop-fun-smaller c =
    let next : IsNext (waits (rows_of c.args.leads.now)) (length c.args.leads.now) (has c.loop-fun.placed) c.in-Some.fun =
    next_read (rows_of c.args.leads.now) (length c.args.leads.now) c.in_ok-waiting.waiting.items c.deref.result.now (has c.loop-fun.placed) c.in-Some.fun
    c.in_ok-waiting.ensures c.deref.ensures.value c.in-Some.ensures.found in
    step_smaller (rows_of c.args.leads.now) (length c.args.leads.now) (has c.loop-fun.placed) (has c.insert_all.new.self) c.in-Some.fun next
    (c.insert_all.ensures ∙ ap (joined (has c.loop-fun.placed)) c.group_of-group.ensures)

pub loop-fun-preserved : goal.loop-fun-preserved
loop-fun-preserved c =
    let next : IsNext (waits (rows_of c.args.leads.now)) (length c.args.leads.now) (has c.loop-fun.placed) c.in-Some.fun =
    next_read (rows_of c.args.leads.now) (length c.args.leads.now) c.in_ok-waiting.waiting.items c.deref.result.now (has c.loop-fun.placed) c.in-Some.fun
    c.in_ok-waiting.ensures c.deref.ensures.value c.in-Some.ensures.found in
    let pushed : c.push.new.self.items ≡ c.loop-fun.list.items ++ c.in_ok-functions.field-0 ∷ [] = search rules in
    front_step (rows_of c.args.leads.now) (length c.args.leads.now) none (has c.loop-fun.placed) (has c.insert_all.new.self)
    (lists_of c.loop-fun.list.items) (lists_of c.push.new.self.items) (ids_of c.in_ok-functions.field-0.items) c.in-Some.fun
    c.loop-fun.invariant next
    (c.in_ok-functions.ensures ∙ ap (below (length c.args.leads.now)) c.group_of-group.ensures)
    (c.insert_all.ensures ∙ ap (joined (has c.loop-fun.placed)) c.group_of-group.ensures)
    (ap lists_of pushed ∙ lists_push c.loop-fun.list.items c.in_ok-functions.field-0)

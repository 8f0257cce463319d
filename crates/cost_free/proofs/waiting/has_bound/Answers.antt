use Rattle.std.proofs.Common.{◌∙◌, ◌<◌, ◌-◌, ◌&&◌, length, sym, arith}
use Rattle.cost_free.specs.Task.{Outcome}
use Rattle.cost_free.specs.Blocked.{is_among, row, pays_for}
use Rattle.cost_free.specs.Read.{lists_of}
use Rattle.cost_free.proofs.Passing.{one_passes}
use Rattle.cost_free.proofs.waiting.has_bound.Goals as goal

pub returns-then-gives_bound : goal.returns-then-gives_bound
returns-then-gives_bound c =
    let gives = λ (e : Outcome). pays_for c.args.meter e && is_among c.args.fun (row (lists_of c.args.groups.now) e.0.group) in
    let inside : c.loop-left.left - 1 < length c.args.done.now = omega (arith, c.loop-left.invariant.0, c.loop-left-test.true) in
    sym (one_passes gives c.args.done.now (c.loop-left.left - 1) _ inside (sym c.gives_bound.ensures ∙ c.if-gives_bound.true))

use Rattle.std.proofs.Common.{◌<◌, ◌++◌, ◌∷◌, [], cond, length, sym, ap, ◌∙◌, arith, append-nil}
use Rattle.cost_free.specs.Task.{Free}
use Rattle.cost_free.specs.Read.{tasks_of}
use Rattle.cost_free.proofs.GroupTasks.{tasks_step}
use Rattle.cost_free.proofs.group.append_tasks_for.Goals as goal

pub loop-place-preserved-then-not-is_within : goal.loop-place-preserved-then-not-is_within
loop-place-preserved-then-not-is_within c =
    let one = c.args.one.now in
    let place = c.loop-place.place in
    let old = tasks_of c.loop-place.tasks.items in
    let low : place < length one.degrees.items = omega (arith, c.loop-place-test.true, c.len-place-end.ensures, one.degrees.ok.0) in
    tasks_step c.args.group c.args.budget one.fun.0 one.degrees.items place c.index.result.now old old _ low c.index.ensures
    (sym (append-nil old)
    ∙ ap (λ b. old ++ cond b (record { group = c.args.group; kind = Free c.args.budget one.fun.0 place } ∷ []) []) (sym c.if-not-is_within.true ∙ c.is_within.ensures))
    c.loop-place.invariant

pub loop-place-preserved : goal.loop-place-preserved
loop-place-preserved c =
    let one = c.args.one.now in
    let place = c.loop-place.place in
    let old = tasks_of c.loop-place.tasks.items in
    let low : place < length one.degrees.items = omega (arith, c.loop-place-test.true, c.len-place-end.ensures, one.degrees.ok.0) in
    let within = sym c.if-not-is_within.false ∙ c.is_within.ensures in
    tasks_step c.args.group c.args.budget one.fun.0 one.degrees.items place c.index.result.now old _ _ low c.index.ensures
    (c.in_ok-append_task.ensures
    ∙ (λ i. old ++ cond (within i) (record { group = c.args.group; kind = Free c.args.budget one.fun.0 (c.in_ok-target.ensures i) } ∷ []) []))
    c.loop-place.invariant

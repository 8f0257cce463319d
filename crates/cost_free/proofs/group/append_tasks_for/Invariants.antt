use Rattle.std.proofs.Common.{◌≡◌, ◌++◌, drop}
use Rattle.cost_free.specs.Numbered.{tasks_by}
use Rattle.cost_free.specs.Read.{tasks_of}
use Rattle.cost_free.proofs.group.append_tasks_for.Given as goal

abbrev pub invariant-loop-place : goal.invariant-loop-place
invariant-loop-place l =
    tasks_of l.tasks.items ++ tasks_by l.group l.budget l.one.fun.0 l.place (drop l.place l.one.degrees.items)
    ≡ tasks_of l.fn.tasks.items ++ tasks_by l.group l.budget l.one.fun.0 0 l.one.degrees.items

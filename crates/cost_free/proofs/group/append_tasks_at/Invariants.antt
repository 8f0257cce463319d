use Rattle.std.proofs.Common.{◌≡◌, ◌++◌, drop}
use Rattle.cost_free.specs.Numbered.{tasks_of_all}
use Rattle.cost_free.specs.Read.{tasks_of, all_numbered}
use Rattle.cost_free.proofs.group.append_tasks_at.Given as goal

abbrev pub invariant-loop-one : goal.invariant-loop-one
invariant-loop-one l =
    tasks_of l.tasks.items ++ tasks_of_all l.group l.budget (all_numbered (drop l.one-index l.numbered)) ≡ tasks_of l.fn.tasks.items ++ tasks_of_all l.group l.budget (all_numbered l.numbered)

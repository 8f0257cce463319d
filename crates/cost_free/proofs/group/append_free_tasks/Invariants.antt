use Rattle.std.proofs.Common.{◌≡◌, ◌+◌, ◌-◌, ◌++◌, flat_map}
use Rattle.std.specs.List.{range_with_len}
use Rattle.cost_free.specs.Numbered.{tasks_of_all}
use Rattle.cost_free.specs.Read.{tasks_of, all_numbered}
use Rattle.cost_free.proofs.group.append_free_tasks.Given as goal

abbrev pub invariant-loop-budget : goal.invariant-loop-budget
invariant-loop-budget l =
    tasks_of l.tasks.items ++ flat_map (λ budget. tasks_of_all l.group budget (all_numbered l.numbered)) (range_with_len l.budget (l.degree + 1 - l.budget))
    ≡ tasks_of l.fn.tasks.items ++ flat_map (λ budget. tasks_of_all l.group budget (all_numbered l.numbered)) (range_with_len 0 (l.degree + 1))

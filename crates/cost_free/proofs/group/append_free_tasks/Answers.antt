use Rattle.std.proofs.Common.{◌≡◌, ◌-◌, ◌+◌, ◌<◌, arith}
use Rattle.cost_free.specs.Numbered.{tasks_of_all}
use Rattle.cost_free.specs.Read.{all_numbered}
use Rattle.cost_free.proofs.GroupTasks.{budget_step}
use Rattle.cost_free.proofs.group.append_free_tasks.Goals as goal

pub loop-budget-preserved : goal.loop-budget-preserved
loop-budget-preserved c =
    let n = c.args.degree + 1 in
    let some : 0 < n - c.loop-budget.budget = omega (arith, c.loop-budget-test.true) in
    let next : n - (c.loop-budget.budget + 1) ≡ n - c.loop-budget.budget - 1 = omega arith in
    budget_step (λ budget. tasks_of_all c.args.group budget (all_numbered c.args.numbered.now)) c.loop-budget.budget (n - c.loop-budget.budget) (n - (c.loop-budget.budget + 1)) _ _ _
    some next c.in_ok-append_tasks_at.ensures c.loop-budget.invariant

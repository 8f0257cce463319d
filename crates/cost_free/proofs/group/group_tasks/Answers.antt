use Rattle.std.proofs.Common.{ap, ◌∙◌}
use Rattle.cost_free.specs.Read.{ids_of, plan_of, all_numbered}
use Rattle.cost_free.proofs.GroupTasks.{same_tasks}
use Rattle.cost_free.proofs.group.group_tasks.Goals as goal

pub returns-clause-all : goal.returns-clause-all
returns-clause-all c =
    same_tasks (plan_of c.args.plan) c.in_ok-group.group c.args.place (ids_of c.args.funs.now) (all_numbered c.deref.result.now) _ c.all_tasks.ensures.low c.in_ok-group.ensures
    (ap all_numbered c.deref.ensures.value ∙ c.in_ok-numbered.ensures.all) c.in_ok-all_tasks.ensures.tasks

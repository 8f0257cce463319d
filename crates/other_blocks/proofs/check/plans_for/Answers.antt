use Rattle.std.proofs.Common.{subst}
use Rattle.rules_plan.specs.Read.{program_in, ArePlansOf}
use Rattle.other_blocks.proofs.check.plans_for.Goals as goal

pub returns-in-Ok-clause-plans : goal.returns-in-Ok-clause-plans
returns-in-Ok-clause-plans c = subst (λ d. ArePlansOf (program_in c.args.program.now) c.args.task.group d c.in-Ok.plans) c.budget_of-budget.ensures c.in-Ok.ensures.plans

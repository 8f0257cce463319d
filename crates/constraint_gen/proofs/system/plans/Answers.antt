use Rattle.std.proofs.Common.{◌∙◌, sym, subst}
use Rattle.std.specs.Prelude.{Err}
use Rattle.std.proofs.Common.{ap}
use Rattle.rules_plan.specs.Read.{program_in, GroupWithin, ArePlansOf}
use Rattle.constraint_gen.proofs.system.plans.Goals as goal

pub returns-in-Ok-clause-plans : goal.returns-in-Ok-clause-plans
returns-in-Ok-clause-plans c = subst (λ d. ArePlansOf (program_in c.args.program.now) c.args.task.now.group d c.in-Ok.made) c.budget_of.ensures c.in-Ok.ensures.plans

pub returns-in-Ok-clause-fits : goal.returns-in-Ok-clause-fits
returns-in-Ok-clause-fits c =
    let P = program_in c.args.program.now in
    let group = c.args.task.now.group in
    let plans = c.in-Ok.ensures.plans in
    subst (GroupWithin P group) (plans.budget_is ∙ c.budget_of.ensures) (subst (λ g. GroupWithin P g c.in-Ok.made.budget) plans.group_is plans.are.within)

pub returns-in-Err-TooMany-clause-fault : goal.returns-in-Err-TooMany-clause-fault
returns-in-Err-TooMany-clause-fault c = λ w.
    c.in-Err-TooMany.ensures.many (ap Err c.in-Err-TooMany.field-0-is) (subst (GroupWithin (program_in c.args.program.now) c.args.task.now.group) (sym c.budget_of.ensures) w)

use Rattle.std.proofs.Common.{◌≡◌, map}
use Rattle.std.specs.Rc.{rc_value}
use Rattle.rules_walk.specs.Read.{plan_of}
use Rattle.rules_plan.specs.Given.{made_of}
use Rattle.rules_plan.proofs.budgets.shared.Given as goal

abbrev pub invariant-loop-plan : goal.invariant-loop-plan
invariant-loop-plan l = map (λ r. plan_of (rc_value r)) l.made.items ≡ made_of l.yielded

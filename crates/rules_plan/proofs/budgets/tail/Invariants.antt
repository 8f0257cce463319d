use Rattle.std.proofs.Common.{◌≡◌, ◌++◌, drop, map}
use Rattle.std.specs.Rc.{rc_value}
use Rattle.rules_plan.proofs.budgets.tail.Given as goal

abbrev pub invariant-loop-plan : goal.invariant-loop-plan
invariant-loop-plan l = map rc_value l.made.items ++ map rc_value (drop l.plan-index l.plan-items) ≡ map rc_value l.plan-items

use Rattle.std.proofs.Common.{◌≡◌, ◌≤◌, ◌++◌, drop, length}
use Rattle.rules_spec.specs.Plan as p
use Rattle.rules_plan.specs.Down.{both_down}
use Rattle.rules_plan.specs.Change.{step_at}
use Rattle.rules_plan.specs.Given.{made_of}
use Rattle.rules_plan.proofs.budgets.forks.Given as goal

abbrev pub invariant-loop-second : goal.invariant-loop-second
invariant-loop-second l = record {
  low : l.d ≤ 4;
  made : made_of l.made.items ++ both_down (λ d a b. p.Forks l.nodes (step_at l.change d) a (step_at l.other d) b) l.d (made_of (drop (length l.yielded) l.fn.seconds.items)) (made_of l.firsts.rest.items)
      ≡ both_down (λ d a b. p.Forks l.nodes (step_at l.change d) a (step_at l.other d) b) l.top (made_of l.fn.seconds.items) (made_of l.fn.firsts.items);
}

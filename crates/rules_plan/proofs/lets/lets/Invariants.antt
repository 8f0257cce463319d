use Rattle.std.proofs.Common.{◌≡◌, ◌≤◌, ◌-◌, ◌++◌, drop, map, length}
use Rattle.std.specs.Rc.{rc_value}
use Rattle.rules_spec.specs.Plan as p
use Rattle.rules_walk.specs.Read.{plan_of, plans}
use Rattle.rules_plan.specs.Down.{each_down}
use Rattle.rules_plan.specs.Given.{made_of}
use Rattle.rules_plan.specs.Wide.{at_budget, parts_at}
use Rattle.rules_plan.proofs.lets.lets.Given as goal

abbrev pub invariant-loop-rest : goal.invariant-loop-rest
invariant-loop-rest l = record {
  low : l.d ≤ l.top;
  made : made_of l.made.items ++ each_down (λ d e. p.Lets l.nodes (parts_at l.cut d) (plans (drop (l.top - d) (map (λ r. plan_of (rc_value r)) l.firsts))) (at_budget l.cut.sizes.rest.items d) e) l.d (made_of (drop (length l.yielded) l.fn.rests.items)) ≡ each_down (λ d e. p.Lets l.nodes (parts_at l.cut d) (plans (drop (l.top - d) (map (λ r. plan_of (rc_value r)) l.firsts))) (at_budget l.cut.sizes.rest.items d) e) l.top (made_of l.fn.rests.items);
}

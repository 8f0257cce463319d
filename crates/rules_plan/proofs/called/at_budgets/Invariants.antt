use Rattle.std.proofs.Common.{◌≡◌, ◌++◌, drop, map}
use Rattle.rules_spec.specs.Plan as p
use Rattle.rules_plan.specs.Given.{made_of}
use Rattle.rules_plan.specs.Wide.{called_at}
use Rattle.rules_plan.proofs.called.at_budgets.Given as goal

abbrev pub invariant-loop-d : goal.invariant-loop-d
invariant-loop-d l = made_of l.made.items ++ map (λ d. p.Calls l.nodes (called_at l.callee d)) (drop l.d-index l.d-items) ≡ map (λ d. p.Calls l.nodes (called_at l.callee d)) l.d-items

use Rattle.std.proofs.Common.{◌≡◌, ◌++◌, drop, map}
use Rattle.rules_spec.specs.Plan as p
use Rattle.rules_plan.specs.Given.{made_of}
use Rattle.rules_plan.specs.Wide.{built_steps}
use Rattle.rules_plan.proofs.constructed.at_budgets.Given as goal

abbrev pub invariant-loop-d : goal.invariant-loop-d
invariant-loop-d l = made_of l.made.items ++ map (λ d. p.Ends l.nodes 1 (built_steps l.built d)) (drop l.d-index l.d-items) ≡ map (λ d. p.Ends l.nodes 1 (built_steps l.built d)) l.d-items

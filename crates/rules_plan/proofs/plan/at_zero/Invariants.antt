use Rattle.std.proofs.Common.{◌≡◌, map}
use Rattle.rules_spec.specs.Plan as p
use Rattle.rules_spec.specs.Planned.{zero_alone}
use Rattle.rules_plan.specs.Given.{made_of}
use Rattle.rules_plan.proofs.plan.at_zero.Given as goal

abbrev pub invariant-loop : goal.invariant-loop
invariant-loop l = made_of l.made.items ≡ map (λ d. p.Ends l.nodes 0 zero_alone) l.yielded

use Rattle.std.proofs.Common.{◌≡◌, map}
use Rattle.rules_spec.specs.Plan as p
use Rattle.rules_plan.specs.Given.{made_of}
use Rattle.rules_plan.proofs.budgets.pays.Given as goal

abbrev pub invariant-loop-rest : goal.invariant-loop-rest
invariant-loop-rest l = made_of l.made.items ≡ map (λ e. p.Pays l.nodes l.ticks e) (made_of l.yielded)

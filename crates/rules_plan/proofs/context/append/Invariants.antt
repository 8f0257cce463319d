use Rattle.std.proofs.Common.{◌≡◌, ◌++◌, drop}
use Rattle.normal_spec.specs.Read.{parameters_of}
use Rattle.rules_plan.proofs.context.append.Given as goal

abbrev pub invariant-loop-variable : goal.invariant-loop-variable
invariant-loop-variable l = parameters_of l.found.items ++ parameters_of (drop l.variable-index l.context) ≡ parameters_of l.fn.found.items ++ parameters_of l.context

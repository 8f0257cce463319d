use Rattle.std.proofs.Common.{◌≡◌, ◌++◌, drop}
use Rattle.normal_spec.specs.Context.{others}
use Rattle.normal_spec.specs.Read.{norm_of, parameters_of}
use Rattle.rules_plan.proofs.context.others.Given as goal

abbrev pub invariant-loop-variable : goal.invariant-loop-variable
invariant-loop-variable l = parameters_of l.found.items ++ others (norm_of l.expr) (parameters_of (drop l.variable-index l.context)) ≡ others (norm_of l.expr) (parameters_of l.context)

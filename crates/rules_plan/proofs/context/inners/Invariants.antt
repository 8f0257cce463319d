use Rattle.std.proofs.Common.{◌≡◌, ◌++◌, drop}
use Rattle.normal_spec.specs.Context.{inners}
use Rattle.normal_spec.specs.Read.{norm_of, parameters_of}
use Rattle.rules_plan.proofs.context.inners.Given as goal

abbrev pub invariant-loop-variable : goal.invariant-loop-variable
invariant-loop-variable l = parameters_of l.found.items ++ inners (norm_of l.expr) (parameters_of (drop l.variable-index l.context)) ≡ inners (norm_of l.expr) (parameters_of l.context)

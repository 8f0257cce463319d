use Rattle.std.proofs.Common.{◌≡◌, ◌++◌, drop}
use Rattle.annot_types.specs.Carried.{marks}
use Rattle.normal_spec.specs.Read.{norm_of, parameters_of}
use Rattle.rules_plan.proofs.free.marks.Given as goal

abbrev pub invariant-loop-variable : goal.invariant-loop-variable
invariant-loop-variable l = l.found.items ++ marks (norm_of l.expr) (parameters_of (drop l.variable-index l.context)) ≡ marks (norm_of l.expr) (parameters_of l.context)

use Rattle.std.proofs.Common.{◌≡◌, ◌++◌, drop}
use Rattle.base_poly.specs.Read.{context_of}
use Rattle.normal_spec.specs.Context.{types}
use Rattle.normal_spec.specs.Read.{parameters_of}
use Rattle.constraint_gen.proofs.task.parameter_types.Given as goal

abbrev pub invariant-loop-parameter : goal.invariant-loop-parameter
invariant-loop-parameter l = context_of l.made.items ++ types (parameters_of (drop l.parameter-index l.parameters)) ≡ types (parameters_of l.parameters)

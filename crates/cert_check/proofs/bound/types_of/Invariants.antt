use Rattle.std.proofs.Common.{◌≡◌, ◌++◌, drop}
use Rattle.base_poly.specs.Read.{context_of}
use Rattle.normal_spec.specs.Context.{types}
use Rattle.normal_spec.specs.Read.{parameters_of}
use Rattle.cert_check.proofs.bound.types_of.Given as goal

abbrev pub invariant-loop-param : goal.invariant-loop-param
invariant-loop-param l = context_of l.made.items ++ types (parameters_of (drop l.param-index l.params)) ≡ types (parameters_of l.params)

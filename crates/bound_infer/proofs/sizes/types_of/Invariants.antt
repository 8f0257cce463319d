use Rattle.std.proofs.Common.{◌≡◌, ◌++◌, drop}
use Rattle.base_poly.specs.Read.{context_of}
use Rattle.normal_spec.specs.Context.{types}
use Rattle.normal_spec.specs.Read.{parameters_of}
use Rattle.bound_infer.proofs.sizes.types_of.Given as goal

abbrev pub invariant-loop-ty : goal.invariant-loop-ty
invariant-loop-ty l = context_of l.found.items ++ types (parameters_of (drop l.ty-index l.params)) ≡ types (parameters_of l.params)

use Rattle.std.proofs.Common.{◌≡◌, ◌++◌, map, drop}
use Rattle.raml_syntax.specs.Read.{parameter_of}
use Rattle.raml_syntax.specs.Tree.{Parameter}
use Rattle.base_poly.specs.Read.{context_of}
use Rattle.bound_file.proofs.places.types_of.Given as goal

abbrev pub invariant-loop-param : goal.invariant-loop-param
invariant-loop-param l =
    context_of l.types.items ++ map (λ (p : Parameter). p.type) (map parameter_of (drop l.param-index l.params)) ≡ map (λ (p : Parameter). p.type) (map parameter_of l.params)

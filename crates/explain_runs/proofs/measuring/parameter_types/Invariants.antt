use Rattle.std.proofs.Common.{◌≡◌, ◌++◌, drop, map}
use Rattle.raml_syntax.specs.Tree.{Parameter}
use Rattle.raml_syntax.specs.Read.{ty_of, parameter_of}
use Rattle.explain_runs.proofs.measuring.parameter_types.Given as goal

abbrev pub invariant-loop-param : goal.invariant-loop-param
invariant-loop-param l =
    map ty_of l.types.items ++ map (λ (p : Parameter). p.type) (map parameter_of (drop l.param-index l.function.params.items)) ≡ map (λ (p : Parameter). p.type) (map parameter_of l.function.params.items)

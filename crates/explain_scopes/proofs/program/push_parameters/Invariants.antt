use Rattle.std.proofs.Common.{◌≡◌, ◌++◌, map, drop}
use Rattle.raml_syntax.specs.Tree.{Parameter}
use Rattle.raml_syntax.specs.Read.{parameter_of}
use Rattle.explain_scopes.specs.Scopes.{parameter, variable}
use Rattle.explain_scopes.specs.Read.{occurrences_of}
use Rattle.explain_scopes.proofs.program.push_parameters.Given as goal

abbrev pub invariant-loop-param : goal.invariant-loop-param
invariant-loop-param l =
    occurrences_of l.found.items ++ map (λ (p : Parameter). variable (parameter p)) (map parameter_of (drop l.param-index l.params))
    ≡ occurrences_of l.fn.found.items ++ map (λ (p : Parameter). variable (parameter p)) (map parameter_of l.params)

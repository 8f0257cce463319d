use Rattle.std.proofs.Common.{◌≡◌, ◌++◌, ◌-◌, map, drop, length}
use Rattle.raml_syntax.specs.Read.{function_of}
use Rattle.explain_scopes.specs.Scopes.{names_of_all}
use Rattle.explain_scopes.specs.Read.{bounds_of, occurrences_of}
use Rattle.explain_scopes.proofs.program.push_functions.Given as goal

abbrev pub invariant-loop-place : goal.invariant-loop-place
invariant-loop-place l =
    occurrences_of l.found.items ++ names_of_all (bounds_of l.functions) (bounds_of (drop l.place l.functions)) (map function_of (drop l.place l.funs))
    ≡ occurrences_of l.fn.found.items ++ names_of_all (bounds_of l.functions) (bounds_of l.functions) (map function_of l.funs)

abbrev pub decreases-loop-place : goal.decreases-loop-place
decreases-loop-place l = length l.functions - l.place

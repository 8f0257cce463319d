use Rattle.std.proofs.Common.{◌≡◌, ◌++◌, ◌-◌, map, drop, length}
use Rattle.raml_syntax.specs.Read.{function_of}
use Rattle.explain_scopes.specs.Scopes.{named_at}
use Rattle.explain_scopes.specs.Read.{bounds_of, places_of}
use Rattle.explain_scopes.proofs.program.functions_at.Given as goal

abbrev pub invariant-loop-place : goal.invariant-loop-place
invariant-loop-place l =
    bounds_of l.functions.items ++ named_at (places_of (drop l.place l.places)) (map function_of (drop l.place l.funs))
    ≡ named_at (places_of l.places) (map function_of l.funs)

abbrev pub decreases-loop-place : goal.decreases-loop-place
decreases-loop-place l = length l.places - l.place

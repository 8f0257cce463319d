use Rattle.std.proofs.Common.{◌≡◌, ◌++◌, drop}
use Rattle.parse_table.specs.Read.{pieces}
use Rattle.explain_scopes.specs.Sources.{function_places}
use Rattle.explain_scopes.specs.Read.{places_of}
use Rattle.explain_scopes.proofs.program.function_places.Given as goal

abbrev pub invariant-loop-place : goal.invariant-loop-place
invariant-loop-place l = places_of l.places.items ++ function_places (pieces (drop l.place l.tokens)) ≡ function_places (pieces l.tokens)

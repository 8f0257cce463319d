use Rattle.std.proofs.Common.{◌≡◌, ◌++◌, drop}
use Rattle.explain_scopes.specs.Named.{uses}
use Rattle.explain_scopes.specs.Read.{occurrences_of, plain_parts}
use Rattle.explain_scopes.proofs.named.uses.Given as goal

abbrev pub invariant-loop-name : goal.invariant-loop-name
invariant-loop-name l =
    plain_parts l.parts.items ++ uses l.binding.0 (occurrences_of (drop l.name-index l.found)) ≡ uses l.binding.0 (occurrences_of l.found)

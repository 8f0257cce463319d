use Rattle.std.proofs.Common.{◌≡◌, drop}
use Rattle.explain_scopes.specs.Named.{met_at}
use Rattle.explain_scopes.specs.Read.{occurrences_of}
use Rattle.explain_scopes.proofs.named.met_at.Given as goal

abbrev pub invariant-loop-name : goal.invariant-loop-name
invariant-loop-name l = met_at l.offset (occurrences_of (drop l.name-index l.found)) ≡ met_at l.offset (occurrences_of l.found)

use Rattle.std.proofs.Common.{◌≡◌, drop}
use Rattle.explain_scopes.specs.Renaming.{parts_at}
use Rattle.explain_scopes.specs.Read.{occurrences_of}
use Rattle.explain_scopes.proofs.rename.parts_at.Given as goal

abbrev pub invariant-loop-name : goal.invariant-loop-name
invariant-loop-name l = parts_at l.from.0 l.to.0 (occurrences_of (drop l.name-index l.found)) ≡ parts_at l.from.0 l.to.0 (occurrences_of l.found)

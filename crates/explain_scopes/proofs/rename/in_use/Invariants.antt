use Rattle.std.proofs.Common.{◌≡◌, drop}
use Rattle.explain_scopes.specs.Renaming.{any_takes}
use Rattle.explain_scopes.specs.Read.{occurrence_of, occurrences_of}
use Rattle.explain_scopes.proofs.rename.in_use.Given as goal

abbrev pub invariant-loop-other : goal.invariant-loop-other
invariant-loop-other l =
    any_takes (occurrences_of l.found) (occurrence_of l.met) l.name (occurrences_of (drop l.other-index l.found))
    ≡ any_takes (occurrences_of l.found) (occurrence_of l.met) l.name (occurrences_of l.found)

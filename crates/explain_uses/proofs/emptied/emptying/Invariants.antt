use Rattle.std.proofs.Common.{◌≡◌, ◌++◌, map, drop}
use Rattle.explain_edits.specs.Read.{edits_of}
use Rattle.explain_uses.specs.Emptied.{edit}
use Rattle.explain_uses.specs.Read.{uses_of}
use Rattle.explain_uses.proofs.emptied.emptying.Given as goal

abbrev pub invariant-loop-later : goal.invariant-loop-later
invariant-loop-later l = edits_of l.edits.items ++ map edit (uses_of (drop l.later-index l.uses)) ≡ map edit (uses_of l.uses)

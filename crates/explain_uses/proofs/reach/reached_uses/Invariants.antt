use Rattle.std.specs.List.{All}
use Rattle.raml_syntax.specs.Read.{program_of}
use Rattle.call_groups.specs.Read.{ids_of}
use Rattle.explain_mending.specs.Mended.{AreAmong}
use Rattle.explain_uses.specs.Reached.{IsReachedUse}
use Rattle.explain_uses.proofs.reach.reached_uses.Given as goal

abbrev pub invariant-loop-later : goal.invariant-loop-later
invariant-loop-later l = AreAmong l.uses l.found.items × All (IsReachedUse (program_of l.program) (ids_of l.group)) l.found.items

use Rattle.raml_syntax.specs.Tree.{Prog}
use Rattle.call_groups.specs.Groups.{IsGrouping}
use Rattle.call_groups.specs.Read.{ids_of}
use Rattle.explain_mending.specs.Reached.{AreReached}
use Rattle.explain_mending.proofs.reach.reached.Given as goal

abbrev pub invariant-loop-place : goal.invariant-loop-place
invariant-loop-place l = (P : Prog) → IsGrouping P l.groups → AreReached P (ids_of l.group) l.found.items

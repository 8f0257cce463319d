use Rattle.std.specs.List.{All}
use Rattle.raml_syntax.specs.Read.{program_of}
use Rattle.call_groups.specs.Read.{ids_of}
use Rattle.explain_mending.specs.Mended.{AreAmong}
use Rattle.explain_rebuild.specs.Reached.{IsReachedSite}
use Rattle.explain_rebuild.proofs.sites.reached_sites.Given as goal

abbrev pub invariant-loop-site : goal.invariant-loop-site
invariant-loop-site l = AreAmong l.sites l.found.items × All (IsReachedSite (program_of l.program) (ids_of l.group)) l.found.items

use Rattle.explain_mending.specs.Mended.{AreAmong}
use Rattle.explain_rebuild.proofs.mending.usable.Given as goal

abbrev pub invariant-loop-site : goal.invariant-loop-site
invariant-loop-site l = AreAmong l.sites l.found.items

use Rattle.std.proofs.Common.{subst}
use Rattle.constraint_gen.specs.Finished.{AllThere}
use Rattle.constraint_gen.proofs.finish.finish.Goals as goal

pub whole-requires-clause-there : goal.whole-requires-clause-there
whole-requires-clause-there c = subst AllThere c.deref.ensures.value c.in-None.ensures.none

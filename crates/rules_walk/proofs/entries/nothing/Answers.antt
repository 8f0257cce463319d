use Rattle.std.proofs.Common.{arith}
use Rattle.std.proofs.lemmas.Grind.{common_steps}
use Rattle.rules_walk.proofs.Bringing.{nothing_more}
use Rattle.rules_walk.proofs.entries.nothing.Goals as goal

pub loop-preserved : goal.loop-preserved
loop-preserved g c = grind (arith, common_steps, nothing_more g.T.Kind.kind c.loop.counter)

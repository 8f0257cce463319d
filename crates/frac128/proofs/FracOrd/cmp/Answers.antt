use Rattle.frac128.proofs.Comparing.{by_numerators}
use Rattle.frac128.proofs.FracOrd.cmp.Goals as goal

pub returns-then-self-other : goal.returns-then-self-other
returns-then-self-other c = by_numerators c.args.self.now c.args.other.now c.cmp.result c.if-self-other.true c.cmp.ensures

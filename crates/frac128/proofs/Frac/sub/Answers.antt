use Rattle.frac128.proofs.Sums.{is_difference}
use Rattle.frac128.proofs.Frac.sub.Goals as goal

pub returns-clause-fits : goal.returns-clause-fits
returns-clause-fits c m l = rw (c.neg.ensures.num, c.neg.ensures.den) at (c.add.ensures.fits m (rw c.neg.ensures.den l))

pub returns-clause-value : goal.returns-clause-value
returns-clause-value c = is_difference c.args.self.now c.args.other.now c.neg.result c.add.result c.neg.ensures.num c.neg.ensures.den c.add.ensures.value

use Rattle.frac128.proofs.Sums.{same_fits}
use Rattle.frac128.proofs.Frac.add.Goals as goal

pub returns-then-self-other-clause-fits : goal.returns-then-self-other-clause-fits
returns-then-self-other-clause-fits c m l = same_fits c.args.self.now c.args.other.now m c.sum_over_same.result c.if-self-other.true l c.sum_over_same.ensures.fits

use Rattle.explain_sizes.proofs.Binomials.{half_of}
use Rattle.explain_sizes.proofs.binomial.pairs.Goals as goal

pub returns : goal.returns
returns c = half_of _ _ _ c.from-count.ensures c.saturating_sub.ensures

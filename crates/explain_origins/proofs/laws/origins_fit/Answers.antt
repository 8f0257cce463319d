use Rattle.explain_origins.proofs.Fitting.{origins_fit}
use Rattle.explain_origins.proofs.laws.origins_fit.Goals as goal

pub returns : goal.returns
returns c = origins_fit

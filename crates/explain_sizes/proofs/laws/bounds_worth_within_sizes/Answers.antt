use Rattle.explain_sizes.proofs.Bounds.{bounds_worth}
use Rattle.explain_sizes.proofs.laws.bounds_worth_within_sizes.Goals as goal

pub returns : goal.returns
returns c = bounds_worth

use Rattle.explain_sizes.proofs.Exactly.{is_worth}
use Rattle.explain_sizes.proofs.laws.is_worth_at_exact_sizes.Goals as goal

pub returns : goal.returns
returns c = is_worth

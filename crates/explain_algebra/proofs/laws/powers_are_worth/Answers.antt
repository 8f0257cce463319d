use Rattle.explain_algebra.proofs.Worth.{powers_are_worth}
use Rattle.explain_algebra.proofs.laws.powers_are_worth.Goals as goal

pub returns : goal.returns
returns c = powers_are_worth

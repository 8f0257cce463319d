use Rattle.bound_compare.proofs.Listed.{powers_are_these}
use Rattle.bound_compare.proofs.laws.powers_are_these.Goals as goal

pub returns : goal.returns
returns c = powers_are_these

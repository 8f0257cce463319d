use Rattle.bound_compare.proofs.Alone.{powers_are_one}
use Rattle.bound_compare.proofs.laws.powers_are_one.Goals as goal

pub returns : goal.returns
returns c = powers_are_one

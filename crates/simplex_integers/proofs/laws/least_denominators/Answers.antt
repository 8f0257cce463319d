use Rattle.simplex_integers.proofs.Least.{least_denominators}
use Rattle.simplex_integers.proofs.laws.least_denominators.Goals as goal

pub returns : goal.returns
returns c = least_denominators

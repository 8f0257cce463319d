use Rattle.simplex_spec.proofs.Agreeing.{ends_least}
use Rattle.simplex_spec.proofs.ends_are_least.Goals as goal

pub returns : goal.returns
returns c = ends_least

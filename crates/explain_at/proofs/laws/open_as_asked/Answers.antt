use Rattle.explain_at.proofs.Open.{as_asked}
use Rattle.explain_at.proofs.laws.open_as_asked.Goals as goal

pub returns : goal.returns
returns c = as_asked

use Rattle.linear_rows.proofs.Duality.{least}
use Rattle.linear_rows.proofs.proved_is_least.Goals as goal

pub returns : goal.returns
returns c = least

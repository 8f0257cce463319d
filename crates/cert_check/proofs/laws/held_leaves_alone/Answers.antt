use Rattle.cert_check.proofs.Alone.{held_leaves_alone}
use Rattle.cert_check.proofs.laws.held_leaves_alone.Goals as goal

pub returns : goal.returns
returns c = held_leaves_alone

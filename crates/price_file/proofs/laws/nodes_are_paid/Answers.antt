use Rattle.price_file.proofs.Paid.{nodes_paid}
use Rattle.price_file.proofs.laws.nodes_are_paid.Goals as goal

pub returns : goal.returns
returns c = nodes_paid

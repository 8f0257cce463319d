use Rattle.bound_contract.proofs.OnlyOne.{decided_once}
use Rattle.bound_contract.proofs.laws.decided_once.Goals as goal

pub returns : goal.returns
returns c = decided_once

use Rattle.bound_contract.proofs.Owned.{one_own}
use Rattle.bound_contract.proofs.laws.one_own.Goals as goal

pub returns : goal.returns
returns c = one_own

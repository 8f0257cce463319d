use Rattle.bound_contract.proofs.OnlyOne.{calls_exactly}
use Rattle.bound_contract.proofs.laws.calls_exactly.Goals as goal

pub returns : goal.returns
returns c = calls_exactly

use Rattle.bound_contract.proofs.Refused.{read_leaves_alone}
use Rattle.bound_contract.proofs.laws.read_leaves_alone.Goals as goal

pub returns : goal.returns
returns c = read_leaves_alone c.tried_have_tasks.ensures c.ordered_are_proper.ensures

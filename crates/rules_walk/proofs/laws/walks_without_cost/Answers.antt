use Rattle.rules_walk.proofs.Unpaid.{walks_without_cost}
use Rattle.rules_walk.proofs.laws.walks_without_cost.Goals as goal

pub returns : goal.returns
returns c = walks_without_cost

use Rattle.rules_plan.proofs.Lower.{lower_are_within}
use Rattle.rules_plan.proofs.laws.lower_are_within.Goals as goal

pub returns : goal.returns
returns c = lower_are_within

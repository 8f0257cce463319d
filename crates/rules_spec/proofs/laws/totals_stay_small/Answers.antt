use Rattle.rules_spec.proofs.SmallWalks.{totals_stay_small}
use Rattle.rules_spec.proofs.laws.totals_stay_small.Goals as goal

pub returns : goal.returns
returns c = totals_stay_small

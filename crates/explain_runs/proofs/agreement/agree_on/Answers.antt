use Rattle.explain_runs.proofs.Texts.{decided}
use Rattle.explain_runs.proofs.agreement.agree_on.Goals as goal

pub returns : goal.returns
returns c = decided _ _ _ _ _ c.are_same_runs.result c.in_ok-one.one c.in_ok-other.other c.in_ok-one.ensures c.in_ok-other.ensures c.are_same_runs.ensures

use Rattle.explain_faults.proofs.Refused.{first_is_refused}
use Rattle.explain_faults.proofs.laws.first_is_refused.Goals as goal

pub returns : goal.returns
returns c = first_is_refused

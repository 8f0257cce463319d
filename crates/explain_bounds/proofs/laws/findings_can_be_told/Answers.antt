use Rattle.explain_bounds.proofs.Found.{findings_can_be_told}
use Rattle.explain_bounds.proofs.laws.findings_can_be_told.Goals as goal

pub returns : goal.returns
returns c = findings_can_be_told

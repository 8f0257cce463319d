use Rattle.rules_systems_laws.proofs.Solutions.{solutions_hold}
use Rattle.rules_systems_laws.proofs.laws.solutions_hold.Goals as goal

pub returns : goal.returns
returns c = solutions_hold

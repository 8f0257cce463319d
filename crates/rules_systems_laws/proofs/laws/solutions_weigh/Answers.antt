use Rattle.rules_systems_laws.proofs.Solutions.{solutions_weigh}
use Rattle.rules_systems_laws.proofs.laws.solutions_weigh.Goals as goal

pub returns : goal.returns
returns c = solutions_weigh

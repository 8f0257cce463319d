use Rattle.rules_systems_laws.proofs.Solutions.{what_holds_solves}
use Rattle.rules_systems_laws.proofs.laws.what_holds_solves.Goals as goal

pub returns : goal.returns
returns c = what_holds_solves

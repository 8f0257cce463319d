use Rattle.rules_systems_laws.proofs.Ready.{shaped_are_tasks}
use Rattle.rules_systems_laws.proofs.laws.shaped_are_tasks.Goals as goal

pub returns : goal.returns
returns c = shaped_are_tasks c.blockers_are_least.ensures

use Rattle.infer_systems_laws.proofs.Certified.{tried_have_tasks}
use Rattle.infer_systems_laws.proofs.laws.tried_have_tasks.Goals as goal

pub returns : goal.returns
returns c = tried_have_tasks c.tried_are_tasks.ensures c.tried_have_systems.ensures

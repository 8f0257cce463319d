use Rattle.infer_systems_laws.proofs.Systems.{tried_have_systems}
use Rattle.infer_systems_laws.proofs.laws.tried_have_systems.Goals as goal

pub returns : goal.returns
returns c = tried_have_systems c.shaped_are_tasks.ensures c.systems_are_walked.ensures

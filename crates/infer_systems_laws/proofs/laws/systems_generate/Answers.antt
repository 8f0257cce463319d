use Rattle.infer_systems_laws.proofs.Generating.{systems_generate}
use Rattle.infer_systems_laws.proofs.laws.systems_generate.Goals as goal

pub returns : goal.returns
returns c = systems_generate c.tried_are_tasks.ensures c.tried_have_systems.ensures c.targets_are_numbered.ensures

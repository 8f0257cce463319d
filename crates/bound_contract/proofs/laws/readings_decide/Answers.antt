use Rattle.bound_contract.proofs.Readings.{readings_decide}
use Rattle.bound_contract.proofs.laws.readings_decide.Goals as goal

pub returns : goal.returns
returns c = readings_decide c.tried_have_tasks.ensures

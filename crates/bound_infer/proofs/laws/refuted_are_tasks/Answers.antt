use Rattle.bound_infer.proofs.TaskLaws.{refuted_are_tasks}
use Rattle.bound_infer.proofs.laws.refuted_are_tasks.Goals as goal

pub returns : goal.returns
returns c = refuted_are_tasks c.tried_are_tasks.ensures

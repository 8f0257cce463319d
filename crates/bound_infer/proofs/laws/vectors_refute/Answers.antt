use Rattle.bound_infer.proofs.TaskLaws.{vectors_refute}
use Rattle.bound_infer.proofs.laws.vectors_refute.Goals as goal

pub returns : goal.returns
returns c = vectors_refute c.tried_are_tasks.ensures c.what_holds_solves.ensures c.refuted_has_no_solution.ensures

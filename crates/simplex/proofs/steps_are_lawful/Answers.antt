use Rattle.simplex.proofs.Steps.{steps}
use Rattle.simplex.proofs.steps_are_lawful.Goals as goal

pub returns : goal.returns
returns c = steps

use Rattle.simplex.proofs.Steps.{pivot_faults}
use Rattle.simplex.proofs.pivot_faults_are_refused.Goals as goal

pub returns : goal.returns
returns c = pivot_faults

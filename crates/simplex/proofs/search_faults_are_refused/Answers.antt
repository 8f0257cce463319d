use Rattle.simplex.proofs.Steps.{search_faults}
use Rattle.simplex.proofs.search_faults_are_refused.Goals as goal

pub returns : goal.returns
returns c = search_faults

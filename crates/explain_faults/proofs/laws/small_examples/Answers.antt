use Rattle.explain_faults.proofs.Computed.{examples}
use Rattle.explain_faults.proofs.laws.small_examples.Goals as goal

pub returns : goal.returns
returns c = examples

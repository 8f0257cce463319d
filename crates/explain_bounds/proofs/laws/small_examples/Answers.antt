use Rattle.explain_bounds.proofs.Computed.{examples}
use Rattle.explain_bounds.proofs.laws.small_examples.Goals as goal

pub returns : goal.returns
returns c = examples

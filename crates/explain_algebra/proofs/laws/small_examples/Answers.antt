use Rattle.explain_algebra.proofs.Computed.{examples}
use Rattle.explain_algebra.proofs.laws.small_examples.Goals as goal

pub returns : goal.returns
returns c = examples

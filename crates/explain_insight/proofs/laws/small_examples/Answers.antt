use Rattle.explain_insight.proofs.Computed.{examples}
use Rattle.explain_insight.proofs.laws.small_examples.Goals as goal

pub returns : goal.returns
returns c = examples

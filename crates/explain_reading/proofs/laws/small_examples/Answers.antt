use Rattle.explain_reading.proofs.Computed.{examples}
use Rattle.explain_reading.proofs.laws.small_examples.Goals as goal

pub returns : goal.returns
returns c = examples

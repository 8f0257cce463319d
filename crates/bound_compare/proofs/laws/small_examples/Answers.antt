use Rattle.bound_compare.proofs.Computed.{examples}
use Rattle.bound_compare.proofs.laws.small_examples.Goals as goal

pub returns : goal.returns
returns c = examples

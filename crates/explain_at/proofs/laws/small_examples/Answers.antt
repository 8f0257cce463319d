use Rattle.explain_at.proofs.Computed.{examples_hold}
use Rattle.explain_at.proofs.laws.small_examples.Goals as goal

pub returns : goal.returns
returns c = examples_hold

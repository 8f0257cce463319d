use Rattle.explain_scopes.proofs.Computed.{examples_hold}
use Rattle.explain_scopes.proofs.laws.small_examples.Goals as goal

pub returns : goal.returns
returns c = examples_hold

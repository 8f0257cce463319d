use Rattle.explain_places.proofs.Computed.{examples_hold}
use Rattle.explain_places.proofs.laws.small_examples.Goals as goal

pub returns : goal.returns
returns c = examples_hold

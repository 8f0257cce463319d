use Rattle.explain_json.proofs.Computed.{examples}
use Rattle.explain_json.proofs.laws.small_examples.Goals as goal

pub returns : goal.returns
returns c = examples

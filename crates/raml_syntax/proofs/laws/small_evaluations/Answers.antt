use Rattle.raml_syntax.proofs.Computed.{examples_hold}
use Rattle.raml_syntax.proofs.laws.small_evaluations.Goals as goal

pub returns : goal.returns
returns c = examples_hold

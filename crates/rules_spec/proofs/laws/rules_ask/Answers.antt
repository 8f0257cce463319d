use Rattle.rules_spec.proofs.Asking.{rules_ask}
use Rattle.rules_spec.proofs.laws.rules_ask.Goals as goal

pub returns : goal.returns
returns c = rules_ask

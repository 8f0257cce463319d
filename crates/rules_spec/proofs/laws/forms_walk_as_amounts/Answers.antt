use Rattle.rules_spec.proofs.Solving.{forms_walk_as_amounts}
use Rattle.rules_spec.proofs.laws.forms_walk_as_amounts.Goals as goal

pub returns : goal.returns
returns c = forms_walk_as_amounts

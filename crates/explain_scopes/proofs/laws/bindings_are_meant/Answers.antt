use Rattle.explain_scopes.proofs.Meaning.{bindings_are_meant}
use Rattle.explain_scopes.proofs.laws.bindings_are_meant.Goals as goal

pub returns : goal.returns
returns c = bindings_are_meant

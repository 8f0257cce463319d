use Rattle.explain_nested.proofs.Naming.{names_suffice}
use Rattle.explain_nested.proofs.laws.names_suffice.Goals as goal

pub returns : goal.returns
returns c = names_suffice

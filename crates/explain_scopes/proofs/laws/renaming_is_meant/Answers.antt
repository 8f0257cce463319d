use Rattle.explain_scopes.proofs.Renamed.{renaming_is_meant}
use Rattle.explain_scopes.proofs.laws.renaming_is_meant.Goals as goal

pub returns : goal.returns
returns c = renaming_is_meant

use Rattle.explain_algebra.proofs.Naming.{none_is_unnamed}
use Rattle.explain_algebra.proofs.laws.none_is_unnamed.Goals as goal

pub returns : goal.returns
returns c = none_is_unnamed

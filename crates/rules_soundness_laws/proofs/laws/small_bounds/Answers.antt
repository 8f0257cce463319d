use Rattle.rules_soundness_laws.proofs.Appends.{examples_hold}
use Rattle.rules_soundness_laws.proofs.laws.small_bounds.Goals as goal

pub returns : goal.returns
returns c = examples_hold

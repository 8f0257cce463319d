use Rattle.rules_soundness_laws.proofs.Source.{sources_are_bounded}
use Rattle.rules_soundness_laws.proofs.laws.sources_are_bounded.Goals as goal

pub returns : goal.returns
returns c = sources_are_bounded

use Rattle.rules_soundness_laws.proofs.Bound.{normal_runs_are_bounded}
use Rattle.rules_soundness_laws.proofs.laws.normal_runs_are_bounded.Goals as goal

pub returns : goal.returns
returns c = normal_runs_are_bounded

use Rattle.normal_spec.proofs.KeepCalls.{normal_runs_keep_types}
use Rattle.normal_spec.proofs.laws.normal_runs_keep_types.Goals as goal

pub returns : goal.returns
returns c = normal_runs_keep_types

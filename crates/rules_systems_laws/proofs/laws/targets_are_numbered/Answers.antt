use Rattle.rules_systems_laws.proofs.Scheduled.{targets_are_numbered}
use Rattle.rules_systems_laws.proofs.laws.targets_are_numbered.Goals as goal

pub returns : goal.returns
returns c = targets_are_numbered

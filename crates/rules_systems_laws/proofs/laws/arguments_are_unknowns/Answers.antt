use Rattle.rules_systems_laws.proofs.Arguments.{arguments_are_unknowns}
use Rattle.rules_systems_laws.proofs.laws.arguments_are_unknowns.Goals as goal

pub returns : goal.returns
returns c = arguments_are_unknowns

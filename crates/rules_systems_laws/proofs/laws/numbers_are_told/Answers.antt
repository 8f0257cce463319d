use Rattle.rules_systems_laws.proofs.Solutions.{numbers_are_told}
use Rattle.rules_systems_laws.proofs.laws.numbers_are_told.Goals as goal

pub returns : goal.returns
returns c = numbers_are_told

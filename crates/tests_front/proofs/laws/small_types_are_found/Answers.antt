use Rattle.tests_front.proofs.FoundTypes.{types_are_found}
use Rattle.tests_front.proofs.laws.small_types_are_found.Goals as goal

pub returns : goal.returns
returns c = types_are_found

use Rattle.tests_analysis.proofs.NineJoined.{nine_are_joined}
use Rattle.tests_analysis.proofs.laws.targets_of_nine_lists.Goals as goal

pub returns : goal.returns
returns c = nine_are_joined

use Rattle.tests_front.proofs.ReadTokens.{tokens_are_read}
use Rattle.tests_front.proofs.laws.short_programs_are_read.Goals as goal

pub returns : goal.returns
returns c = tokens_are_read

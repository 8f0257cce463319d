use Rattle.explain_verdicts.proofs.Declaring.{lines_have_fractions}
use Rattle.explain_verdicts.proofs.laws.lines_have_fractions.Goals as goal

pub returns : goal.returns
returns c = lines_have_fractions

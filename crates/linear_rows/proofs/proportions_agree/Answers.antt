use Rattle.linear_rows.proofs.Proportions.{agree}
use Rattle.linear_rows.proofs.proportions_agree.Goals as goal

pub returns : goal.returns
returns c = agree

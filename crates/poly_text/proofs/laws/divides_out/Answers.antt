use Rattle.poly_text.proofs.Divide.{divides_out}
use Rattle.poly_text.proofs.laws.divides_out.Goals as goal

pub returns : goal.returns
returns c = divides_out

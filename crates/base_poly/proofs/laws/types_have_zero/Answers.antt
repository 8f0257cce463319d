use Rattle.base_poly.proofs.Recursion.{types_have_zero}
use Rattle.base_poly.proofs.laws.types_have_zero.Goals as goal

pub returns : goal.returns
returns c = types_have_zero

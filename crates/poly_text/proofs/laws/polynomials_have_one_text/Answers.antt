use Rattle.poly_text.proofs.OneText.{polynomials_have_one_text}
use Rattle.poly_text.proofs.laws.polynomials_have_one_text.Goals as goal

pub returns : goal.returns
returns c = polynomials_have_one_text

use Rattle.tests_potential.proofs.PrintedPolynomials.{polynomials_are_printed}
use Rattle.tests_potential.proofs.laws.small_polynomials_have_texts.Goals as goal

pub returns : goal.returns
returns c = polynomials_are_printed

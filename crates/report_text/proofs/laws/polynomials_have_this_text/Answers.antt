use Rattle.report_text.proofs.HaveText.{polynomials_have_this_text}
use Rattle.report_text.proofs.laws.polynomials_have_this_text.Goals as goal

pub returns : goal.returns
returns c = polynomials_have_this_text

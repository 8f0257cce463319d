use Rattle.rules_soundness_laws.proofs.Blocks.{forms_pay}
use Rattle.rules_soundness_laws.proofs.laws.forms_pay.Goals as goal

pub returns : goal.returns
returns c = forms_pay

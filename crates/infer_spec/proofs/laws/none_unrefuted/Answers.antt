use Rattle.infer_spec.proofs.Certifying.{none_unrefuted}
use Rattle.infer_spec.proofs.laws.none_unrefuted.Goals as goal

pub returns : goal.returns
returns c = none_unrefuted

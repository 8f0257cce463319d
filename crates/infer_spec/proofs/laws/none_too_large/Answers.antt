use Rattle.infer_spec.proofs.Certifying.{none_too_large}
use Rattle.infer_spec.proofs.laws.none_too_large.Goals as goal

pub returns : goal.returns
returns c = none_too_large

use Rattle.infer_spec.proofs.Certifying.{raised_stay_good}
use Rattle.infer_spec.proofs.laws.raised_stay_good.Goals as goal

pub returns : goal.returns
returns c = raised_stay_good

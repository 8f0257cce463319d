use Rattle.infer_spec.proofs.Certifying.{courses_certify}
use Rattle.infer_spec.proofs.laws.courses_certify.Goals as goal

pub returns : goal.returns
returns c = courses_certify

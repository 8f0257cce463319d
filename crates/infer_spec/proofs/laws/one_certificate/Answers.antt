use Rattle.infer_spec.proofs.Single.{one_certificate}
use Rattle.infer_spec.proofs.laws.one_certificate.Goals as goal

pub returns : goal.returns
returns c = one_certificate c.one_course.ensures

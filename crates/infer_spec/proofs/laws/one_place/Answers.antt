use Rattle.infer_spec.proofs.Single.{one_place}
use Rattle.infer_spec.proofs.laws.one_place.Goals as goal

pub returns : goal.returns
returns c = one_place c.one_course.ensures

use Rattle.infer_spec.proofs.Single.{ends_or_stops}
use Rattle.infer_spec.proofs.laws.ends_or_stops.Goals as goal

pub returns : goal.returns
returns c = ends_or_stops c.one_course.ensures

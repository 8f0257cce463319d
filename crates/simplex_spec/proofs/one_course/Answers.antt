use Rattle.simplex_spec.proofs.Paths.{all}
use Rattle.simplex_spec.proofs.one_course.Goals as goal

pub returns : goal.returns
returns c = all

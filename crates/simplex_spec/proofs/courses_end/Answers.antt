use Rattle.simplex_spec.proofs.Agreeing.{course_ends}
use Rattle.simplex_spec.proofs.courses_end.Goals as goal

pub returns : goal.returns
returns c = course_ends

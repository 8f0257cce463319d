use Rattle.std.specs.Prelude.{None}
use Rattle.std.proofs.Common.{subst}
use Rattle.simplex_spec.specs.Courses.{rule_by}
use Rattle.simplex_checked.specs.Limits.{IsWithin}
use Rattle.simplex_checked.proofs.solving.whole_answer.Goals as goal

pub returns-clause-answer : goal.returns-clause-answer
returns-clause-answer g c = λ pick by. (subst (IsWithin (rule_by pick) c.args.system.now None) c.in-Answered.is (c.in_ok-answer.ensures.within pick by)).0

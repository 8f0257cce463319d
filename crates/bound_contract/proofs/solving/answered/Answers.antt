use Rattle.std.proofs.Common.{subst}
use Rattle.linear_rows.specs.Systems.{IsSystem}
use Rattle.simplex_spec.specs.Courses.{rule_by}
use Rattle.simplex_checked.specs.Alone.{IsAlone, StopsAlone}
use Rattle.simplex_checked.specs.declared.fault.AnswerFault.{AnswerFault}
use Rattle.simplex_checked.specs.declared.fault.AnswerFault.TheVariants as f
use Rattle.simplex_spec.specs.Courses.{Rule}
use Rattle.linear_rows.specs.Systems.{LinearSystem}
use Rattle.bound_contract.specs.Sites.{IsNotLeast}
use Rattle.bound_contract.proofs.solving.answered.Goals as goal

not_least : (rule : Rule) (s : LinearSystem) (fault : AnswerFault) → StopsAlone rule s fault → IsNotLeast fault
not_least rule s (f.Solve pivots row column) h = tt
not_least rule s (f.Scale entry) h = tt
not_least rule s (f.Refute column) h = tt
not_least rule s (f.Least column) h = h
not_least rule s f.NoMemory h = tt

pub answer_fault-requires : goal.answer_fault-requires
answer_fault-requires g c = let one = c.requires.one in not_least (rule_by one.pick) c.args.system.now c.in-Err.fault (c.in-Err.ensures.fault one.pick one.answers)

pub returns-in-Ok-clause-answer : goal.returns-in-Ok-clause-answer
returns-in-Ok-clause-answer g c = λ pick by. subst (λ s. IsAlone (rule_by pick) s c.in-Ok.answer) c.requires.system (c.in-Ok.ensures.answer pick by)

pub returns-in-Err-clause-first : goal.returns-in-Err-clause-first
returns-in-Err-clause-first g c = λ pick by.
    c.answer_fault.ensures c.args.site.now pick (subst IsSystem c.requires.system c.rows-rows.ensures.sound) (c.requires.fine pick)
    (subst (λ s. StopsAlone (rule_by pick) s c.in-Err.fault) c.requires.system (c.in-Err.ensures.fault pick by))

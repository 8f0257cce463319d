use Rattle.std.proofs.Common.{rules}
use Rattle.simplex_checked.specs.Rules.{greatest_pick}
use Rattle.simplex_checked.proofs.Chosen.{answers_by}
use Rattle.raml_parts.proofs.Choosing.{course_by, fault_by}
use Rattle.raml_parts.proofs.analysis.by_greatest.Goals as goal

pub infer-requires-clause-answers : goal.infer-requires-clause-answers
infer-requires-clause-answers c = record { pick = greatest_pick; answers = answers_by _ _ greatest_pick (λ gains o p. search rules) }

pub returns-clause-course : goal.returns-clause-course
returns-clause-course c = course_by c.infer.result greatest_pick _ _ (answers_by _ _ greatest_pick (λ gains o p. search rules)) c.infer.ensures.course

pub returns-clause-fault : goal.returns-clause-fault
returns-clause-fault c = fault_by c.infer.result greatest_pick _ _ (answers_by _ _ greatest_pick (λ gains o p. search rules)) c.infer.ensures.fault

use Rattle.std.proofs.Common.{rules}
use Rattle.std.proofs.lemmas.Result.{IfOk-weaker, IfErr-weaker}
use Rattle.simplex_checked.specs.Rules.{least_pick}
use Rattle.simplex_checked.proofs.Chosen.{answers_by}
use Rattle.explain_degrees.proofs.analysis.analyse.Goals as goal

pub infer-requires-clause-answers : goal.infer-requires-clause-answers
infer-requires-clause-answers c = record { pick = least_pick; answers = answers_by _ _ least_pick (λ gains o p. search rules) }

pub returns-clause-course : goal.returns-clause-course
returns-clause-course c = IfOk-weaker c.infer.result _ _ (λ verified h. h least_pick (answers_by _ _ least_pick (λ gains o p. search rules))) c.infer.ensures.course

pub returns-clause-fault : goal.returns-clause-fault
returns-clause-fault c = IfErr-weaker c.infer.result _ _ (λ fault h. h least_pick (answers_by _ _ least_pick (λ gains o p. search rules))) c.infer.ensures.fault

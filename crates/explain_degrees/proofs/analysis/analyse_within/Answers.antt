use Rattle.std.proofs.Common.{rules}
use Rattle.std.proofs.lemmas.Result.{IfOk-weaker, IfErr-weaker}
use Rattle.cert_check.proofs.Telling.{some_more, none_more}
use Rattle.simplex_checked.specs.Rules.{least_pick}
use Rattle.simplex_checked.proofs.Chosen.{answers_by}
use Rattle.explain_degrees.proofs.analysis.analyse_within.Goals as goal

pub infer_within-requires-clause-answers : goal.infer_within-requires-clause-answers
infer_within-requires-clause-answers c = record { pick = least_pick; answers = answers_by _ _ least_pick (λ gains o p. search rules) }

pub returns-clause-course : goal.returns-clause-course
returns-clause-course c =
    IfOk-weaker c.infer_within.result _ _ (λ found h. some_more found _ _ (λ verified k. k least_pick (answers_by _ _ least_pick (λ gains o p. search rules))) h) c.infer_within.ensures.course

pub returns-clause-enough : goal.returns-clause-enough
returns-clause-enough c =
    IfOk-weaker c.infer_within.result _ _ (λ found h. some_more found _ _ (λ verified k. k least_pick (answers_by _ _ least_pick (λ gains o p. search rules))) h) c.infer_within.ensures.enough

pub returns-clause-given_up : goal.returns-clause-given_up
returns-clause-given_up c =
    IfOk-weaker c.infer_within.result _ _ (λ found h. none_more found (λ k. k least_pick (answers_by _ _ least_pick (λ gains o p. search rules))) h) c.infer_within.ensures.given_up

pub returns-clause-fault : goal.returns-clause-fault
returns-clause-fault c = IfErr-weaker c.infer_within.result _ _ (λ fault h. h least_pick (answers_by _ _ least_pick (λ gains o p. search rules))) c.infer_within.ensures.fault

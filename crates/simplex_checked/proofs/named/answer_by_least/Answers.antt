use Rattle.std.proofs.Common.{rules}
use Rattle.simplex_checked.specs.Rules.{least_pick}
use Rattle.simplex_checked.proofs.Chosen.{answers_by, answer_by, fault_by}
use Rattle.simplex_checked.proofs.named.answer_by_least.Goals as goal

pub returns-clause-answer : goal.returns-clause-answer
returns-clause-answer c = answer_by _ _ least_pick c.args.system.now (answers_by _ _ least_pick (λ gains o p. search rules)) c.whole_answer.result c.whole_answer.ensures.answer

pub returns-clause-fault : goal.returns-clause-fault
returns-clause-fault c = fault_by _ _ least_pick c.args.system.now (answers_by _ _ least_pick (λ gains o p. search rules)) c.whole_answer.result c.whole_answer.ensures.fault

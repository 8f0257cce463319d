use Rattle.std.proofs.Common.{subst}
use Rattle.simplex.specs.Solving.{IsAnswer, IsRefuted, IsWithin, rule_of}
use Rattle.simplex_checked.specs.Outcomes.{NoOutcome}
use Rattle.simplex_checked.proofs.ByPick.{are_refuting, passed_on, vector_fails}
use Rattle.simplex_checked.proofs.solving.outcome_of.Goals as goal

pub checked_vector-requires-clause-refuting : goal.checked_vector-requires-clause-refuting
checked_vector-requires-clause-refuting g c =
    let rule = rule_of g.F.Fn c.args.chooser.now in
    let here = c.in-Answered-NoSolution in
    let refuted : IsRefuted rule c.args.system.now here.pivots.items here.farkas.items =
    subst (IsAnswer rule c.args.system.now) here.field-0-is (subst (IsWithin rule c.args.system.now c.args.most) here.is c.in_ok-x.ensures.within) in
    rw c.deref.ensures.value (are_refuting rule c.args.system.now here.pivots.items here.farkas.items refuted)

pub returns-in-Answered-Leaves-clause-fault : goal.returns-in-Answered-Leaves-clause-fault
returns-in-Answered-Leaves-clause-fault g c =
    let rule = rule_of g.F.Fn c.args.chooser.now in
    let here = c.in-Answered-Leaves in
    subst (IsAnswer rule c.args.system.now) here.field-0-is (subst (IsWithin rule c.args.system.now c.args.most) here.is c.in_ok-x.ensures.within)

pub returns-in_err-answer-in-Answered-NoSolution-clause-fault : goal.returns-in_err-answer-in-Answered-NoSolution-clause-fault
returns-in_err-answer-in-Answered-NoSolution-clause-fault g c =
    let rule = rule_of g.F.Fn c.args.chooser.now in
    let here = c.in-Answered-NoSolution in
    let refuted : IsRefuted rule c.args.system.now here.pivots.items here.farkas.items =
    subst (IsAnswer rule c.args.system.now) here.field-0-is (subst (IsWithin rule c.args.system.now c.args.most) here.is c.in_ok-x.ensures.within) in
    passed_on (NoOutcome rule c.args.system.now) _ _ c.from_residual-in_err-answer-in-Answered-NoSolution.ensures.1
    (vector_fails rule c.args.system.now here.pivots.items here.farkas.items refuted _ (rw c.deref.ensures.value at c.in_err-answer-in-Answered-NoSolution.ensures.fault))

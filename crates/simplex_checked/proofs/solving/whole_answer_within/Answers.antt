use Rattle.std.specs.Prelude.{ℕ, ℤ, List, Option}
use Rattle.simplex_spec.specs.Courses.{rule_by}
use Rattle.simplex.specs.Solving.{rule_of}
use Rattle.simplex_checked.specs.Answers.{Stops}
use Rattle.simplex_checked.specs.Outcomes.{IsOutcome}
use Rattle.simplex_checked.specs.declared.solving.Outcome.TheVariants.{Solution, Refuted, Cut}
use Rattle.simplex_checked.proofs.ByPick.{best_answers, best_fails, vector_ok, cuts_by, are_least, no_outcome_stops, passed_on, IsMore}
use Rattle.simplex_checked.proofs.Limiting.{best_within, refuted_within, not_cut, is_cut}
use Rattle.simplex_checked.proofs.solving.whole_answer_within.Goals as goal

pub checked_solution-requires-clause-least : goal.checked_solution-requires-clause-least
checked_solution-requires-clause-least g c =
    let here = c.in-Solution in
    let rule = rule_of g.F.Fn c.args.chooser.now in
    let o : IsOutcome rule c.args.system.now c.args.most (Solution here.x here.dual here.pivots) = rw here.is at c.in_ok-x.ensures.outcome in
    rw (c.deref.ensures.value, c.deref-in-Solution.ensures.value) (are_least rule c.args.system.now o.0 here.x.items here.dual.items o.1)

pub returns-in_ok-answer-in-Solution-clause-within : goal.returns-in_ok-answer-in-Solution-clause-within
returns-in_ok-answer-in-Solution-clause-within g c =
    let here = c.in-Solution in
    let rule = rule_of g.F.Fn c.args.chooser.now in
    let s = c.args.system.now in
    let o : IsOutcome rule s c.args.most (Solution here.x here.dual here.pivots) = rw here.is at c.in_ok-x.ensures.outcome in
    let cut = rw here.is at c.in_ok-x.ensures.cut in
    λ pick more. let w = best_within rule s c.args.most ⊥ cut (λ n. n) o.0 here.x.items here.dual.items here.pivots o.1 o.2 pick more in (
      best_answers c.least_denominators.ensures rule s o.0 here.x.items here.dual.items o.1 _ (rw (c.deref.ensures.value, c.deref-in-Solution.ensures.value) at c.in_ok-answer-in-Solution.ensures.answer) pick more,
      w.0,
      w.1,
    )

pub returns-in_ok-answer-in-Solution-clause-cut : goal.returns-in_ok-answer-in-Solution-clause-cut
returns-in_ok-answer-in-Solution-clause-cut g c =
    let here = c.in-Solution in
    let rule = rule_of g.F.Fn c.args.chooser.now in
    let s = c.args.system.now in
    let o : IsOutcome rule s c.args.most (Solution here.x here.dual here.pivots) = rw here.is at c.in_ok-x.ensures.outcome in
    let cut = rw here.is at c.in_ok-x.ensures.cut in
    λ pick more. not_cut s c.rows-rows.ensures.sound c.args.most pick here.pivots (best_within rule s c.args.most ⊥ cut (λ n. n) o.0 here.x.items here.dual.items here.pivots o.1 o.2 pick more)

pub returns-in_err-answer-in-Solution-clause-fault : goal.returns-in_err-answer-in-Solution-clause-fault
returns-in_err-answer-in-Solution-clause-fault g c =
    let here = c.in-Solution in
    let rule = rule_of g.F.Fn c.args.chooser.now in
    let s = c.args.system.now in
    let o : IsOutcome rule s c.args.most (Solution here.x here.dual here.pivots) = rw here.is at c.in_ok-x.ensures.outcome in
    passed_on (λ fault. (pick : List ℤ → ℤ → Option ℕ) → IsMore pick rule → Stops (rule_by pick) s fault) _ _ c.from_residual-in_err-answer-in-Solution.ensures.1
    (best_fails c.least_denominators.ensures rule s o.0 here.x.items here.dual.items o.1 c.refused_entries_leave.ensures _
    (rw (c.deref.ensures.value, c.deref-in-Solution.ensures.value) at c.in_err-answer-in-Solution.ensures.fault))

pub returns-in-Refuted-clause-within : goal.returns-in-Refuted-clause-within
returns-in-Refuted-clause-within g c =
    let here = c.in-Refuted in
    let rule = rule_of g.F.Fn c.args.chooser.now in
    let s = c.args.system.now in
    let o : IsOutcome rule s c.args.most (Refuted here.answer here.pivots) = rw here.is at c.in_ok-x.ensures.outcome in
    let cut = rw here.is at c.in_ok-x.ensures.cut in
    λ pick more. let w = refuted_within rule s c.args.most ⊥ cut (λ n. n) o.0 o.1 here.pivots o.2 o.4 pick more in
    (vector_ok c.least_denominators.ensures rule s o.0 o.1 o.2 here.answer o.3 pick more, w.0, w.1)

pub returns-in-Refuted-clause-cut : goal.returns-in-Refuted-clause-cut
returns-in-Refuted-clause-cut g c =
    let here = c.in-Refuted in
    let rule = rule_of g.F.Fn c.args.chooser.now in
    let s = c.args.system.now in
    let o : IsOutcome rule s c.args.most (Refuted here.answer here.pivots) = rw here.is at c.in_ok-x.ensures.outcome in
    let cut = rw here.is at c.in_ok-x.ensures.cut in
    λ pick more. not_cut s c.rows-rows.ensures.sound c.args.most pick here.pivots (refuted_within rule s c.args.most ⊥ cut (λ n. n) o.0 o.1 here.pivots o.2 o.4 pick more)

pub returns-in-Cut-clause-within : goal.returns-in-Cut-clause-within
returns-in-Cut-clause-within g c =
    let rule = rule_of g.F.Fn c.args.chooser.now in
    let o : IsOutcome rule c.args.system.now c.args.most Cut = rw c.in-Cut.is at c.in_ok-x.ensures.outcome in
    λ pick more. cuts_by pick rule more c.args.system.now c.args.most o

pub returns-in-Cut-clause-cut : goal.returns-in-Cut-clause-cut
returns-in-Cut-clause-cut g c =
    let rule = rule_of g.F.Fn c.args.chooser.now in
    let o : IsOutcome rule c.args.system.now c.args.most Cut = rw c.in-Cut.is at c.in_ok-x.ensures.outcome in
    λ pick more. is_cut c.args.system.now c.args.most pick (cuts_by pick rule more c.args.system.now c.args.most o)

pub returns-in_err-x-clause-fault : goal.returns-in_err-x-clause-fault
returns-in_err-x-clause-fault g c = passed_on
    (λ fault. (pick : List ℤ → ℤ → Option ℕ) → IsMore pick (rule_of g.F.Fn c.args.chooser.now) → Stops (rule_by pick) c.args.system.now fault) _ _ c.from_residual.ensures.1
    (no_outcome_stops c.least_denominators.ensures c.refused_entries_leave.ensures (rule_of g.F.Fn c.args.chooser.now) c.args.system.now _ c.in_err-x.ensures.fault)

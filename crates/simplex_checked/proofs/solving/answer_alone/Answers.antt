use Rattle.std.specs.Prelude.{ℕ, ℤ, List, Option, None}
use Rattle.simplex_spec.specs.Courses.{rule_by}
use Rattle.simplex.specs.Solving.{rule_of}
use Rattle.simplex_checked.specs.Alone.{StopsAlone}
use Rattle.simplex_checked.specs.Outcomes.{IsOutcome}
use Rattle.simplex_checked.specs.declared.solving.Outcome.TheVariants.{Solution, Refuted}
use Rattle.simplex_checked.proofs.Taking.{few_first}
use Rattle.simplex_checked.proofs.ByPick.{are_least, alone_ok, alone_err, vector_alone_ok, no_outcome_stops_alone, passed_on, IsMore}
use Rattle.simplex_checked.proofs.solving.answer_alone.Goals as goal

pub in_own-requires : goal.in_own-requires
in_own-requires g c =
    let o : IsOutcome (rule_of g.F.Fn c.args.chooser.now) c.args.system.now None (Solution c.in-Solution.x c.in-Solution.dual c.in-Solution.pivots) = rw c.in-Solution.is at c.in_ok-x.ensures.outcome in
    rw c.deref.ensures.value (few_first c.args.system.now c.in-Solution.x.items c.in-Solution.dual.items
    (are_least (rule_of g.F.Fn c.args.chooser.now) c.args.system.now o.0 c.in-Solution.x.items c.in-Solution.dual.items o.1) c.requires.fits)

pub returns-in-Solution-clause-answer : goal.returns-in-Solution-clause-answer
returns-in-Solution-clause-answer g c =
    let o : IsOutcome (rule_of g.F.Fn c.args.chooser.now) c.args.system.now None (Solution c.in-Solution.x c.in-Solution.dual c.in-Solution.pivots) = rw c.in-Solution.is at c.in_ok-x.ensures.outcome in
    alone_ok c.least_denominators.ensures (rule_of g.F.Fn c.args.chooser.now) c.args.system.now o.0 c.in-Solution.x.items c.in-Solution.dual.items o.1 _
    (rw c.deref.ensures.value at c.in_own.ensures.answer)

pub returns-in-Solution-clause-fault : goal.returns-in-Solution-clause-fault
returns-in-Solution-clause-fault g c =
    let o : IsOutcome (rule_of g.F.Fn c.args.chooser.now) c.args.system.now None (Solution c.in-Solution.x c.in-Solution.dual c.in-Solution.pivots) = rw c.in-Solution.is at c.in_ok-x.ensures.outcome in
    alone_err c.least_denominators.ensures (rule_of g.F.Fn c.args.chooser.now) c.args.system.now o.0 c.in-Solution.x.items c.in-Solution.dual.items o.1
    c.refused_entries_leave.ensures _ (rw c.deref.ensures.value at c.in_own.ensures.fault)

pub returns-in-Refuted-clause-answer : goal.returns-in-Refuted-clause-answer
returns-in-Refuted-clause-answer g c =
    let o : IsOutcome (rule_of g.F.Fn c.args.chooser.now) c.args.system.now None (Refuted c.in-Refuted.answer c.in-Refuted.pivots) = rw c.in-Refuted.is at c.in_ok-x.ensures.outcome in
    vector_alone_ok c.least_denominators.ensures (rule_of g.F.Fn c.args.chooser.now) c.args.system.now o.0 o.1 o.2 c.in-Refuted.answer o.3

pub returns-in_err-x-clause-fault : goal.returns-in_err-x-clause-fault
returns-in_err-x-clause-fault g c = passed_on
    (λ fault. (pick : List ℤ → ℤ → Option ℕ) → IsMore pick (rule_of g.F.Fn c.args.chooser.now) → StopsAlone (rule_by pick) c.args.system.now fault) _ _ c.from_residual.ensures.1
    (no_outcome_stops_alone c.least_denominators.ensures c.refused_entries_leave.ensures (rule_of g.F.Fn c.args.chooser.now) c.args.system.now _ c.in_err-x.ensures.fault)

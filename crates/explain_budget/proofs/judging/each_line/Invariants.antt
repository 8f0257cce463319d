use Rattle.std.specs.Prelude.{◌≡◌, ℕ, ℤ, List, Option}
use Rattle.simplex_checked.specs.Choosing.{AnswersBy}
use Rattle.contract_report.specs.Steps.{ClearBelow}
use Rattle.explain_budget.specs.Steps.{JudgedBelow}
use Rattle.explain_budget.proofs.judging.each_line.Given as goal

-- The lines so far are judged, and no place comes at them.
abbrev pub invariant-loop-number : goal.invariant-loop-number
invariant-loop-number g l = record {
  same : l.decider ≡ l.verified;
  judged : JudgedBelow l.verified l.declared.lines l.number l.all.items;
  clear : (pick : List ℤ → ℤ → Option ℕ) → AnswersBy g.F.Fn l.chooser pick → ClearBelow l.verified l.declared.lines pick l.number;
}

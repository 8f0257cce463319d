use Rattle.std.specs.Prelude.{◌≡◌, ℕ, ℤ, List, Option}
use Rattle.simplex_checked.specs.Choosing.{AnswersBy}
use Rattle.contract_report.specs.Steps.{ToldBelow, ClearBelow}
use Rattle.contract_report.proofs.verdicts.each_line.Given as goal

-- The verdicts of the lines so far are told, and no place comes at them.
abbrev pub invariant-loop-number : goal.invariant-loop-number
invariant-loop-number g l = record {
  same : l.decider ≡ l.checked;
  told : ToldBelow l.checked l.declared.lines l.number l.text.bytes.items;
  clear : (pick : List ℤ → ℤ → Option ℕ) → AnswersBy g.F.Fn l.chooser pick → ClearBelow l.checked l.declared.lines pick l.number;
}

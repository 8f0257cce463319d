use Rattle.std.proofs.Common.{◌≡◌, drop}
use Rattle.explain_budget.specs.Telling.{all_kept}
use Rattle.explain_budget.proofs.telling.are_kept.Given as goal

abbrev pub invariant-loop-one : goal.invariant-loop-one
invariant-loop-one l = all_kept (drop l.one-index l.judged) ≡ all_kept l.judged

use Rattle.std.proofs.Common.{◌≡◌, ◌++◌}
use Rattle.rules_plan.specs.Down.{down}
use Rattle.rules_plan.proofs.budgets.down.Given as goal

abbrev pub invariant-loop-d : goal.invariant-loop-d
invariant-loop-d l = l.found.items ++ down (λ d. d) l.d ≡ down (λ d. d) l.top

abbrev pub decreases-loop-d : goal.decreases-loop-d
decreases-loop-d l = l.d

use Rattle.std.proofs.Common.{◌≡◌, ◌++◌, length}
use Rattle.bound_compare.specs.Steps.{joined}
use Rattle.bound_compare.proofs.form.joined.Given as goal

abbrev pub decreases-loop-left : goal.decreases-loop-left
decreases-loop-left l = length l.left

abbrev pub invariant-loop-left : goal.invariant-loop-left
invariant-loop-left l = l.found.items ++ joined l.carried l.left ≡ joined (0, 0) l.parts

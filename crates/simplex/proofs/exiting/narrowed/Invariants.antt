use Rattle.std.proofs.Common.{◌≤◌, ◌-◌}
use Rattle.simplex.specs.Ties.{columns_to}
use Rattle.simplex.proofs.Narrowing.{Narrowed}
use Rattle.simplex.proofs.exiting.narrowed.Given as goal

abbrev pub invariant-loop-alloc : goal.invariant-loop-alloc
invariant-loop-alloc l = Narrowed (columns_to l.right l.slack l.column) l.entering l.rows l.tied.items × (l.slack ≤ l.column) × (l.column ≤ l.right)

abbrev pub decreases-loop-alloc : goal.decreases-loop-alloc
decreases-loop-alloc l = l.right - l.column

use Rattle.std.proofs.Common.{ℕ, ◌<◌}
use Rattle.call_groups.specs.Read.{rows_of}
use Rattle.call_groups.specs.Sets.{has}
use Rattle.call_groups.specs.Table.{row_at, IsReady}
use Rattle.call_groups.proofs.order.next.Given as goal

abbrev pub invariant-loop-fun : goal.invariant-loop-fun
invariant-loop-fun l = (f : ℕ) → f < l.fun → IsReady (row_at (rows_of l.waiting)) (has l.placed) f → ⊥

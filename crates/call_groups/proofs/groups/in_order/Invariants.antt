use Rattle.std.proofs.Common.{length}
use Rattle.call_groups.specs.Read.{lists_of, rows_of}
use Rattle.call_groups.specs.Sets.{has, none}
use Rattle.call_groups.specs.Table.{Front}
use Rattle.call_groups.proofs.Ordered.{open_count}
use Rattle.call_groups.proofs.groups.in_order.Given as goal

abbrev pub invariant-loop-fun : goal.invariant-loop-fun
invariant-loop-fun l = Front (rows_of l.leads) (length l.leads) none (lists_of l.list.items) (has l.placed)

abbrev pub decreases-loop-fun : goal.decreases-loop-fun
decreases-loop-fun l = open_count (has l.placed) (length l.leads)

use Rattle.call_groups.specs.Read.{rows_of}
use Rattle.call_groups.specs.Table.{Waiting}
use Rattle.call_groups.proofs.order.waiting.Given as goal

abbrev pub invariant-loop-fun : goal.invariant-loop-fun
invariant-loop-fun l = Waiting (rows_of l.leads) l.fun (rows_of l.made.items)

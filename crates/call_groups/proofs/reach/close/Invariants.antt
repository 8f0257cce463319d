use Rattle.std.proofs.Common.{◌≡◌}
use Rattle.call_groups.specs.Read.{rows_of}
use Rattle.call_groups.specs.Table.{through_all}
use Rattle.call_groups.proofs.reach.close.Given as goal

abbrev pub invariant-loop-fun : goal.invariant-loop-fun
invariant-loop-fun l = rows_of l.rows ≡ through_all l.fun (rows_of l.fn.rows)

use Rattle.std.proofs.Common.{◌≡◌}
use Rattle.call_groups.specs.Read.{ids_of}
use Rattle.call_groups.specs.Sets.{has, below}
use Rattle.call_groups.proofs.function_set.FunctionSet.functions.Given as goal

abbrev pub invariant-loop-fun : goal.invariant-loop-fun
invariant-loop-fun l = ids_of l.funs.items ≡ below l.fun (has l.self)

use Rattle.std.proofs.Common.{◌≡◌, drop}
use Rattle.call_groups.specs.Read.{ids_of}
use Rattle.cost_free.specs.Blocked.{is_among}
use Rattle.bound_contract.proofs.own.is_among.Given as goal

-- whether it is among the rest is whether it is among all
abbrev pub invariant-loop-function : goal.invariant-loop-function
invariant-loop-function l = is_among l.fun.0 (ids_of (drop l.function-index l.functions)) ≡ is_among l.fun.0 (ids_of l.functions)

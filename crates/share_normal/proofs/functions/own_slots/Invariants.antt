use Rattle.std.proofs.Common.{◌≡◌, ◌++◌, drop}
use Rattle.normal_spec.specs.Two as two
use Rattle.normal_spec.specs.Read.{parameters_of}
use Rattle.share_normal.proofs.functions.own_slots.Given as goal

abbrev pub invariant-loop-param : goal.invariant-loop-param
invariant-loop-param l = l.slots.items ++ two.own (parameters_of (drop l.param-index l.params)) ≡ two.own (parameters_of l.params)

use Rattle.std.proofs.Common.{◌≡◌, ◌++◌, drop}
use Rattle.share_normal.specs.Frees.{others}
use Rattle.share_normal.proofs.free.push_others.Given as goal

abbrev pub invariant-loop-variable : goal.invariant-loop-variable
invariant-loop-variable l = l.variables.items ++ others l.bound (drop l.variable-index l.part) ≡ l.fn.variables.items ++ others l.bound l.part

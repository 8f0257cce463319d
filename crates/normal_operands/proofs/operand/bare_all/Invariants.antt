use Rattle.std.proofs.Common.{◌≡◌, ◌+◌, drop}
use Rattle.normal_spec.specs.One as one
use Rattle.normal_operands.specs.Operand.{operands_of}
use Rattle.normal_operands.proofs.operand.bare_all.Given as goal

abbrev pub invariant-loop-operand : goal.invariant-loop-operand
invariant-loop-operand l = l.sum + one.bare_all (operands_of (drop l.operand-index l.operands)) ≡ one.bare_all (operands_of l.operands)

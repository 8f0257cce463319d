use Rattle.std.proofs.Common.{◌≡◌, ◌++◌, map, drop}
use Rattle.normal_spec.specs.One as one
use Rattle.normal_operands.specs.Operand.{operands_of}
use Rattle.normal_operands.proofs.operand.variables_of.Given as goal

abbrev pub invariant-loop-operand : goal.invariant-loop-operand
invariant-loop-operand l = l.variables.items ++ map one.name (operands_of (drop l.operand-index l.operands)) ≡ map one.name (operands_of l.operands)

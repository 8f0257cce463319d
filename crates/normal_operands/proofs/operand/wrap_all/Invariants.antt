use Rattle.std.proofs.Common.{◌≡◌, vec_len}
use Rattle.normal_spec.specs.One as one
use Rattle.normal_operands.specs.Read.{norm_in}
use Rattle.normal_operands.specs.Operand.{operands_of}
use Rattle.normal_operands.proofs.operand.wrap_all.Given as goal

abbrev pub invariant-loop-operand : goal.invariant-loop-operand
invariant-loop-operand l = one.wrap_all (operands_of l.operands.items) (norm_in l.made) ≡ one.wrap_all (operands_of l.fn.operands.items) (norm_in l.fn.rest)

abbrev pub decreases-loop-operand : goal.decreases-loop-operand
decreases-loop-operand l = vec_len l.operands

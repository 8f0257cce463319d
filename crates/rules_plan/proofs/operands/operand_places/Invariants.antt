use Rattle.std.proofs.Common.{◌≡◌, ◌++◌, drop}
use Rattle.normal_spec.specs.Read.{parameters_of}
use Rattle.annot_types.specs.Carried.{operand_places}
use Rattle.rules_plan.proofs.operands.operand_places.Given as goal

abbrev pub invariant-loop-x : goal.invariant-loop-x
invariant-loop-x l = l.found.items ++ operand_places (parameters_of l.rest.items) (drop l.x-index l.operands) ≡ operand_places (parameters_of l.context) l.operands

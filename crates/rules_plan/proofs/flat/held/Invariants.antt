use Rattle.std.proofs.Common.{◌≡◌, ◌≤◌, ◌+◌, drop}
use Rattle.normal_spec.specs.Context.{types}
use Rattle.normal_spec.specs.Read.{parameters_of}
use Rattle.rules_plan.specs.Flat.{all_holders}
use Rattle.rules_plan.proofs.flat.held.Given as goal

abbrev pub invariant-loop-ty : goal.invariant-loop-ty
invariant-loop-ty l = (all_holders (types (parameters_of l.context)) + l.left ≡ 10 + all_holders (types (parameters_of (drop l.ty-index l.context)))) × (l.left ≤ 10)

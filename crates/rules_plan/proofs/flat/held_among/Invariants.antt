use Rattle.std.proofs.Common.{◌≡◌, ◌≤◌, ◌+◌, drop}
use Rattle.base_poly.specs.Read.{context_of}
use Rattle.rules_plan.specs.Flat.{all_holders}
use Rattle.rules_plan.proofs.flat.held_among.Given as goal

abbrev pub invariant-loop-ty : goal.invariant-loop-ty
invariant-loop-ty l = (all_holders (context_of l.types) + l.left ≡ 10 + all_holders (context_of (drop l.ty-index l.types))) × (l.left ≤ 10)

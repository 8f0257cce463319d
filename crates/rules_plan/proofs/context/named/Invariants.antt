use Rattle.std.proofs.Common.{◌≡◌, ◌++◌, drop, zip}
use Rattle.base_poly.specs.Read.{context_of}
use Rattle.normal_spec.specs.Read.{parameters_of}
use Rattle.rules_plan.proofs.context.named.Given as goal

abbrev pub invariant-loop-at : goal.invariant-loop-at
invariant-loop-at l = parameters_of l.found.items ++ zip (drop l.at l.names) (context_of (drop l.at l.types)) ≡ zip l.names (context_of l.types)

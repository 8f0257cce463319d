use Rattle.std.proofs.Common.{◌≡◌, ◌++◌, drop, filter, flat_map, nat_lt}
use Rattle.base_poly.specs.Plain.{deg}
use Rattle.base_poly.specs.Read.{plains_of}
use Rattle.cost_free.proofs.join.positive_parts.Given as goal

abbrev pub invariant-loop-tuple : goal.invariant-loop-tuple
invariant-loop-tuple l =
    plains_of l.found.items ++ filter (λ l. nat_lt 0 (deg l)) (flat_map (λ t. t) (drop l.tuple-index l.tuples)) ≡ filter (λ l. nat_lt 0 (deg l)) (flat_map (λ t. t) l.tuples)

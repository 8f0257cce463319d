use Rattle.std.proofs.Common.{◌≡◌, ◌++◌, drop, filter, nat_lt}
use Rattle.base_poly.specs.Plain.{deg}
use Rattle.base_poly.specs.Read.{plains_of}
use Rattle.cost_free.proofs.join.append_positive.Given as goal

abbrev pub invariant-loop-index : goal.invariant-loop-index
invariant-loop-index l =
    plains_of l.found.items ++ filter (λ l. nat_lt 0 (deg l)) (plains_of (drop l.index-index l.indices))
    ≡ plains_of l.fn.found.items ++ filter (λ l. nat_lt 0 (deg l)) (plains_of l.indices)

use Rattle.std.proofs.Common.{◌≡◌, ◌≤◌, ◌/◌, drop}
use Rattle.base_poly.specs.Plain.{degrees}
use Rattle.base_poly.specs.Read.{plains_of}
use Rattle.bound_compare.specs.Powers.{counts, factorials}
use Rattle.bound_compare.proofs.parts.scale.Given as goal

abbrev pub invariant-loop-index : goal.invariant-loop-index
invariant-loop-index l =
    (l.scale / factorials (counts (plains_of (drop l.index-index l.indices))) ≡ 24 / factorials (counts (plains_of l.indices)))
    × (l.scale ≤ 24)
    × (degrees (plains_of (drop l.index-index l.indices)) ≤ 4)

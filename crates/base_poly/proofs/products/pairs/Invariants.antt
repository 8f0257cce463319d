use Rattle.std.proofs.Common.{◌≡◌, ◌++◌, drop, map, flat_map}
use Rattle.base_poly.specs.Plain.{Pair}
use Rattle.base_poly.specs.Read.{plains_of}
use Rattle.base_poly.proofs.products.pairs.Given as goal

abbrev pub invariant-loop-first : goal.invariant-loop-first
invariant-loop-first l =
    plains_of l.found.items ++ flat_map (λ h. map (λ k. Pair h k) (plains_of l.seconds)) (plains_of (drop l.first-index l.firsts))
    ≡ flat_map (λ h. map (λ k. Pair h k) (plains_of l.seconds)) (plains_of l.firsts)

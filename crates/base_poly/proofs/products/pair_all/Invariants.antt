use Rattle.std.proofs.Common.{◌≡◌, ◌++◌, drop, map}
use Rattle.base_poly.specs.Plain.{Pair}
use Rattle.base_poly.specs.Read.{index_of, plains_of}
use Rattle.base_poly.proofs.products.pair_all.Given as goal

abbrev pub invariant-loop-second : goal.invariant-loop-second
invariant-loop-second l =
    plains_of l.found.items ++ map (λ k. Pair (index_of l.first) k) (plains_of (drop l.second-index l.seconds))
    ≡ plains_of l.fn.found.items ++ map (λ k. Pair (index_of l.first) k) (plains_of l.seconds)

use Rattle.std.proofs.Common.{◌≡◌, ◌++◌, ◌∷◌, drop, map, flat_map}
use Rattle.base_poly.specs.Read.{plains_of}
use Rattle.base_poly.proofs.products.append_with_heads.Given as goal

abbrev pub invariant-loop-first : goal.invariant-loop-first
invariant-loop-first l =
    l.found.items ++ flat_map (λ h. map (λ r. h ∷ r) l.tuples) (plains_of (drop l.first-index l.firsts))
    ≡ l.fn.found.items ++ flat_map (λ h. map (λ r. h ∷ r) l.tuples) (plains_of l.firsts)

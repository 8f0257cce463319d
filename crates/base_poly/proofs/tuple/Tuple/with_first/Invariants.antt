use Rattle.std.proofs.Common.{◌≡◌, ◌++◌, ◌∷◌, drop}
use Rattle.base_poly.specs.Read.{index_of, plains_of}
use Rattle.base_poly.proofs.tuple.Tuple.with_first.Given as goal

abbrev pub invariant-loop-part : goal.invariant-loop-part
invariant-loop-part l = plains_of l.parts.items ++ plains_of (drop l.part-index l.part-items) ≡ index_of l.first ∷ plains_of l.part-items

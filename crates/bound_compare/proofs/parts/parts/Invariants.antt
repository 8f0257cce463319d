use Rattle.std.proofs.Common.{◌≡◌, ◌++◌, drop, flat_map}
use Rattle.base_poly.specs.Poly.{magnitudes}
use Rattle.bound_compare.specs.Steps.{parts_of}
use Rattle.bound_compare.proofs.parts.parts.Given as goal

abbrev pub invariant-loop-tuple : goal.invariant-loop-tuple
invariant-loop-tuple l = l.parts.items ++ flat_map parts_of (magnitudes (drop l.tuple-index l.terms)) ≡ flat_map parts_of (magnitudes l.terms)

use Rattle.std.proofs.Common.{◌≡◌, ◌≤◌, drop, length}
use Rattle.base_poly.specs.Poly.{magnitudes}
use Rattle.bound_compare.specs.Tests.{all_at_most}
use Rattle.bound_compare.proofs.coefficients.are_at_most.Given as goal

abbrev pub invariant-loop-tuple : goal.invariant-loop-tuple
invariant-loop-tuple l =
    (l.from ≤ length l.others)
    × (all_at_most (magnitudes (drop l.tuple-index l.terms)) l.den (magnitudes l.others) l.other_den ≡ all_at_most (magnitudes l.terms) l.den (magnitudes l.others) l.other_den)

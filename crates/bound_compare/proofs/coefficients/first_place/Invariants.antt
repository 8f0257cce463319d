use Rattle.std.proofs.Common.{◌≡◌, drop}
use Rattle.base_poly.specs.Poly.{magnitudes}
use Rattle.bound_compare.specs.Compare.{term_at}
use Rattle.bound_compare.proofs.coefficients.first_place.Given as goal

abbrev pub invariant-loop-other : goal.invariant-loop-other
invariant-loop-other l = (l.place ≡ l.other-index) × (term_at l.tuple (magnitudes (drop l.other-index l.terms)) ≡ term_at l.tuple (magnitudes l.terms))

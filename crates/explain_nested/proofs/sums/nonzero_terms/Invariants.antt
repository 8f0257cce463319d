use Rattle.std.proofs.Common.{◌≡◌, ◌++◌, ◌==◌, not, filter, drop}
use Rattle.base_poly.specs.Poly.{magnitudes}
use Rattle.explain_nested.proofs.sums.nonzero_terms.Given as goal

abbrev pub invariant-loop-tuple : goal.invariant-loop-tuple
invariant-loop-tuple l = l.found.items ++ filter (λ t. not (t.1 == 0)) (magnitudes (drop l.tuple-index l.terms)) ≡ filter (λ t. not (t.1 == 0)) (magnitudes l.terms)

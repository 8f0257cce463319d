-- How a common denominator is found.
use Rattle.std.specs.Prelude.{◌≡◌, ◌≤◌, ◌<◌, ◌^◌, ℕ, List, Contains}
use Prim.Native.Nat.{◌∣◌}
use Rattle.base_poly.specs.Poly.{Term, den_of, IsPoly}
use Rattle.base_poly.specs.declared.tuple.Poly.{Poly}
use Rattle.explain_verdicts.specs.Fractions.{IsCommon, Fit, terms_over}
use Rattle.explain_verdicts.specs.Reads.{bound_of, over}
use Rattle.explain_verdicts.specs.declared.fraction.Fraction.{Fraction}

-- The denominators divide it, and it divides each number that they divide.
pub record IsLeastCommon (fs : List Fraction) (den : ℕ) : Type 0 where
  pub positive : 0 < den
  pub common : IsCommon fs den
  pub least : (n : ℕ) → IsCommon fs n → den ∣ n

-- no positive number that they divide fits 128 bits
abbrev pub NoCommon : List Fraction → Type 0
NoCommon fs = (n : ℕ) → 0 < n → IsCommon fs n → 2 ^ 128 ≤ n

-- over the denominator a number is not below 2^127
abbrev pub OneLeaves : ℕ → List Fraction → Type 0
OneLeaves den fs = (t : Term) × Contains (terms_over den fs) t × (2 ^ 127 ≤ t.1)

-- The polynomial is what is declared.
pub record IsOverOne (fs : List Fraction) (poly : Poly) : Type 0 where
  pub common : IsCommon fs (den_of poly)
  pub fit : Fit (den_of poly) (terms_over (den_of poly) fs)
  pub is : bound_of poly ≡ over (den_of poly) fs
  pub polynomial : IsPoly poly

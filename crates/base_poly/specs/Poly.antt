-- What polynomials are as plain data.
use Rattle.std.specs.Prelude.{ℕ, ℤ, ◌<◌, ◌^◌, ◌<ℤ◌, ◌≤ℤ◌, pos, List, map, unsigned_abs, All}
use Rattle.std.specs.List.{IsDistinct}
use Rattle.base_poly.specs.Plain.{Plain, degrees, alike}
use Rattle.base_poly.specs.declared.tuple.Poly.{Poly}

-- a tuple with its coefficient
abbrev pub Term : Type 0
Term = List Plain × ℕ

abbrev pub den_of : Poly → ℕ
den_of p = unsigned_abs p.den

abbrev pub magnitudes : List (List Plain × ℤ) → List Term
magnitudes ts = map (λ t. (t.0, unsigned_abs t.1)) ts

abbrev pub terms_of : Poly → List Term
terms_of p = magnitudes p.terms.items

-- No coefficient is negative, the degrees fit 32 bits, and no tuple stands twice.
pub record AreTerms (ts : List (List Plain × ℤ)) : Type 0 where
  pub natural : All (λ t. pos 0 ≤ℤ t.1) ts
  pub low : All (λ t. degrees t.0 < 2 ^ 32) ts
  pub distinct : IsDistinct alike (map (λ t. t.0) ts)

-- And the denominator is positive.
pub record IsPoly (p : Poly) : Type 0 where
  pub positive : pos 0 <ℤ p.den
  pub terms : AreTerms p.terms.items

-- Terms of given tuples, for tests.
use Rattle.std.proofs.Common.{◌≡◌, zero, suc, ℤ, ◌<◌, ◌^◌, ◌≤ℤ◌, pos, false, List, [], ◌∷◌, map, length, All, refl, sym, subst, arith}
use Rattle.std.specs.List.{IsDistinct}
use Rattle.base_poly.specs.Plain.{Plain, Unit', End, Then, degrees, alike}
use Rattle.base_poly.specs.Poly.{AreTerms}

low_terms : (ts : List (List Plain × ℤ)) → All (λ t. degrees t < 2 ^ 32) (map (λ (t : List Plain × ℤ). t.0) ts) → All (λ (t : List Plain × ℤ). degrees t.0 < 2 ^ 32) ts
low_terms [] h k d below = absurd (omega (arith, below))
low_terms (t ∷ ts) h zero d below = h 0 t.0 (omega arith)
low_terms (t ∷ ts) h (suc k) d below = low_terms ts (λ j e less. h (suc j) e (omega (arith, less))) k d (omega (arith, below))

pub terms_are : (ts : List (List Plain × ℤ)) (tuples : List (List Plain)) → map (λ t. t.0) ts ≡ tuples →
    All (λ t. pos 0 ≤ℤ t.1) ts → All (λ t. degrees t < 2 ^ 32) tuples → IsDistinct alike tuples → AreTerms ts
terms_are ts tuples e natural low distinct = record {
  natural = natural;
  low = low_terms ts (subst (All (λ t. degrees t < 2 ^ 32)) (sym e) low);
  distinct = subst (IsDistinct alike) (sym e) distinct;
}

-- the tuples of three list indices, and one of two indices before one

pub three_differ : IsDistinct alike ((Then Unit' (Then Unit' End) ∷ []) ∷ (End ∷ []) ∷ (Then Unit' End ∷ []) ∷ [])
unfolding IsDistinct
three_differ = ((refl, (refl, tt)), ((refl, tt), (tt, tt)))

pub one_differs : (t : List Plain) → IsDistinct alike (t ∷ [])
unfolding IsDistinct
one_differs t = (tt, tt)

pub two_differ : (t : List Plain) → length t ≡ 2 → IsDistinct alike (t ∷ (End ∷ []) ∷ [])
unfolding IsDistinct
two_differ [] h = absurd (omega (arith, h))
two_differ (i ∷ []) h = absurd (omega (arith, h))
two_differ (i ∷ j ∷ t) h = ((by i, tt), (tt, tt))
  where
    by : (i : Plain) → alike (i ∷ j ∷ t) (End ∷ []) ≡ false
    by (Then a r) = refl
    by i = refl

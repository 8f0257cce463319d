-- Terms of the tuples of a context.
use Rattle.std.proofs.Common.{◌≡◌, ◌≤◌, ◌<◌, ◌^◌, ℕ, zero, suc, ℤ, ◌≤ℤ◌, pos, false, List, [], ◌∷◌, map, length, All, refl, sym, ◌∙◌, subst, arith}
use Rattle.std.specs.List.{AllByRecursion, IsDistinct}
use Rattle.raml_syntax.specs.Tree.{Type'}
use Rattle.std.proofs.lemmas.Int.{ints}
use Rattle.base_poly.specs.Plain.{Plain, Unit', End, Then, degrees, alike}
use Rattle.base_poly.specs.Indices.{AreIndices, IsBefore, Ascends, tuple_order, index_list}
use Rattle.base_poly.specs.Poly.{AreTerms}
use Rattle.base_poly.proofs.Exact.{exact, each_listed}
use Rattle.base_poly.proofs.Ordered.{differ}

-- what holds of the tuples holds of those of terms
by_tuple : (P : List Plain → Type 0) (ts : List (List Plain × ℤ)) → All P (map (λ (t : List Plain × ℤ). t.0) ts) → All (λ (t : List Plain × ℤ). P t.0) ts
by_tuple P [] h k d below = absurd (omega (arith, below))
by_tuple P (t ∷ ts) h zero d below = h 0 t.0 (omega arith)
by_tuple P (t ∷ ts) h (suc k) d below = by_tuple P ts (λ j e less. h (suc j) e (omega (arith, less))) k d (omega (arith, below))

apart : (t : List Plain) (ts : List (List Plain)) → IsBefore tuple_order t ts → AllByRecursion (λ u. alike t u ≡ false) ts
apart t [] h = tt
apart t (u ∷ ts) h = (differ t u h.0, apart t ts h.1)

distinct : (ts : List (List Plain)) → Ascends tuple_order ts → IsDistinct alike ts
unfolding IsDistinct
distinct [] h = tt
distinct (t ∷ ts) h = (apart t ts h.0, distinct ts h.1)

module _ (As : List Type') (d : ℕ) (few : d ≤ 4) (tuples : List (List Plain)) (all : tuples ≡ index_list As d)
    (ts : List (List Plain × ℤ)) (same : map (λ (t : List Plain × ℤ). t.0) ts ≡ tuples) where
  each : (P : List Plain → Type 0) → ((t : List Plain) → AreIndices t As → degrees t ≤ d → P t) → All (λ (t : List Plain × ℤ). P t.0) ts
  each P holds = by_tuple P ts (subst (All P) (sym (same ∙ all)) (each_listed P As d holds))

  pub are_own : All (λ t. AreIndices t.0 As) ts
  are_own = each (λ t. AreIndices t As) (λ t is low. is)

  pub are_low : All (λ t. degrees t.0 ≤ 4) ts
  are_low = each (λ t. degrees t ≤ 4) (λ t is low. omega (arith, few, low))

  pub are_terms : All (λ t. pos 0 ≤ℤ t.1) ts → AreTerms ts
  are_terms natural = record {
    natural = natural;
    low = each (λ t. degrees t < 2 ^ 32) (λ t is low. omega (arith, few, low));
    distinct = subst (IsDistinct alike) (sym (same ∙ all)) (distinct (index_list As d) (exact As d).ascends);
  }

-- two terms whose tuples stand in another order

abbrev reversed : List (List Plain × ℤ)
reversed = (Then Unit' End ∷ [], pos 3) ∷ (End ∷ [], pos 2) ∷ []

reversed_differ : IsDistinct alike (map (λ (t : List Plain × ℤ). t.0) reversed)
unfolding IsDistinct
reversed_differ = ((refl, tt), (tt, tt))

both : (P : List Plain × ℤ → Type 0) → P (Then Unit' End ∷ [], pos 3) → P (End ∷ [], pos 2) → All P reversed
both P h g zero d l = h
both P h g (suc zero) d l = g
both P h g (suc (suc k)) d l = absurd (omega (arith, l))

pub reversed_terms : (ts : List (List Plain × ℤ)) → ts ≡ reversed → AreTerms ts
reversed_terms ts e = subst AreTerms (sym e) (record {
  natural = both (λ t. pos 0 ≤ℤ t.1) (omega (arith, ints)) (omega (arith, ints));
  low = both (λ t. degrees t.0 < 2 ^ 32) (omega arith) (omega arith);
  distinct = reversed_differ;
})

-- How many tuples begin with one of some indices.
use Rattle.std.proofs.Common.{◌≡◌, ◌≤◌, ◌<◌, ℕ, zero, suc, ◌+◌, ◌-◌, List, [], ◌∷◌, map, take, drop, length, slice_index_or, refl, sym, ap, ◌∙◌, arith, length-append}
use Rattle.std.specs.List.{range_with_len}
use Rattle.std.proofs.lemmas.List.{length-map}
use Rattle.raml_syntax.specs.Tree.{Type'}
use Rattle.raml_syntax.specs.Read.{ty_of}
use Rattle.raml_syntax.specs.declared.ty.Ty.{Ty}
use Rattle.base_poly.specs.Plain.{Plain, Unit', deg}
use Rattle.base_poly.specs.Base.{total}
use Rattle.base_poly.specs.Indices.{tuples_led, indices_up_to, tuples_up_to}
use Rattle.base_poly.specs.Read.{context_of}
use Rattle.base_poly.proofs.Lengths.{range_more}

led_counted : (rests : ℕ → List (List Plain)) (d : ℕ) (is : List Plain) → total (λ g. length (rests (d - g))) (map deg is) ≡ length (tuples_led rests d is)
led_counted rests d [] = refl
led_counted rests d (i ∷ is) =
    let one = length-map (rests (d - deg i)) (λ r. i ∷ r) in
    let all = length-append (map (λ r. i ∷ r) (rests (d - deg i))) (tuples_led rests d is) in
    let more = led_counted rests d is in omega (arith, one, all, more)

-- one more length
pub total_step : (f : ℕ → ℕ) (sum k n whole : ℕ) → k < n → sum + total f (range_with_len k (n - k)) ≡ whole → sum + f k + total f (range_with_len (k + 1) (n - (k + 1))) ≡ whole
total_step f sum k n whole h done = let more = ap (total f) (range_more k n h) in omega (arith, more, done)

pub total_end : (f : ℕ → ℕ) (sum k n whole : ℕ) → n ≤ k → sum + total f (range_with_len k (n - k)) ≡ whole → sum ≡ whole
total_end f sum k n whole h done = let none = ap (λ m. total f (range_with_len k m)) left in omega (arith, none, done)
  where
    left : n - k ≡ 0
    left = omega (arith, h)

module _ (A : Type') (As : List Type') (d : ℕ) where
  pub scalars_counted : ((g : ℕ) → indices_up_to A g ≡ Unit' ∷ []) → length (tuples_up_to As d) ≡ length (tuples_led (tuples_up_to As) d (indices_up_to A d))
  scalars_counted one = sum ∙ led_counted (tuples_up_to As) d (Unit' ∷ []) ∙ ap (λ is. length (tuples_led (tuples_up_to As) d is)) (sym (one d))
    where
      sum : length (tuples_up_to As d) ≡ length (tuples_up_to As (d - 0)) + 0
      sum = let same = ap (λ g. length (tuples_up_to As g)) left in omega (arith, same)
        where
          left : d - 0 ≡ d
          left = omega arith

  pub lengths_counted : ((g : ℕ) → map deg (indices_up_to A g) ≡ range_with_len 0 (1 + g)) →
      total (λ g. length (tuples_up_to As (d - g))) (range_with_len 0 (1 + d)) ≡ length (tuples_led (tuples_up_to As) d (indices_up_to A d))
  lengths_counted all = ap (total (λ g. length (tuples_up_to As (d - g)))) (sym (all d)) ∙ led_counted (tuples_up_to As) d (indices_up_to A d)

-- a first type and those behind it
whole : (types : List Ty) (k : ℕ) → k ≡ length types → take k (drop 0 types) ≡ types
whole [] zero e = refl
whole [] (suc k) e = absurd (omega (arith, e))
whole (A ∷ types) zero e = absurd (omega (arith, e))
whole (A ∷ types) (suc k) e = ap (λ l. A ∷ l) (all types k (omega (arith, e)))
  where
    all : (types : List Ty) (k : ℕ) → k ≡ length types → take k types ≡ types
    all [] zero e = refl
    all [] (suc k) e = absurd (omega (arith, e))
    all (A ∷ types) zero e = absurd (omega (arith, e))
    all (A ∷ types) (suc k) e = ap (λ l. A ∷ l) (all types k (omega (arith, e)))

pub first_and_rest : (types : List Ty) (first : Ty) (d : ℕ) → 1 ≤ length types → first ≡ slice_index_or types 0 first →
    tuples_led (tuples_up_to (context_of (take (length types - 1) (drop 1 types)))) d (indices_up_to (ty_of first) d) ≡ tuples_up_to (context_of types) d
first_and_rest [] first d h is = absurd (omega (arith, h))
first_and_rest (A ∷ types) first d h is = λ i. tuples_led (tuples_up_to (context_of (whole types (suc (length types) - 1) (omega arith) i))) d (indices_up_to (ty_of (is i)) d)

-- with one type its tuples are its indices
pub only_type : (types : List Ty) (first : Ty) (d : ℕ) → 1 ≤ length types → length types < 2 → first ≡ slice_index_or types 0 first →
    map (λ i. i ∷ []) (indices_up_to (ty_of first) d) ≡ tuples_up_to (context_of types) d
only_type [] first d h g is = absurd (omega (arith, h))
only_type (A ∷ []) first d h g is = of (indices_up_to (ty_of first) d) ∙ ap (λ A. tuples_up_to (ty_of A ∷ []) d) is
  where
    of : (is : List Plain) → map (λ i. i ∷ []) is ≡ tuples_led (tuples_up_to []) d is
    of [] = refl
    of (i ∷ is) = ap (λ l. (i ∷ []) ∷ l) (of is)
only_type (A ∷ B ∷ types) first d h g is = absurd (omega (arith, g))

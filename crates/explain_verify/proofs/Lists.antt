-- Items of lists at their places.
use Rattle.std.proofs.Common.{◌≡◌, ◌∙◌, ◌<◌, ◌≤◌, ℕ, zero, suc, List, [], ◌∷◌, map, take, length, slice_get, slice_index_or, Some, None, refl, sym, ap, arith}
use Rattle.std.specs.Option.{option_map}
use Rattle.std.proofs.lemmas.Option.{slice_get-map}

pub map_take : {A B : Type 0} (f : A → B) (k : ℕ) (xs : List A) → map f (take k xs) ≡ take k (map f xs)
map_take f zero xs = refl
map_take f (suc k) [] = refl
map_take f (suc k) (x ∷ xs) = ap (λ ys. f x ∷ ys) (map_take f k xs)

read_at : {A B : Type 0} (f : A → B) (xs : List A) (i : ℕ) (x : A) → x ≡ slice_index_or xs i x → i < length xs → slice_get (map f xs) i ≡ Some (f x)
read_at f [] i x is below = absurd (omega (arith, below))
read_at f (y ∷ ys) zero x is below = ap (λ z. Some (f z)) (sym is)
read_at f (y ∷ ys) (suc i) x is below = read_at f ys i x is (omega (arith, below))

none_at : {A B : Type 0} (f : A → B) (xs : List A) (i : ℕ) → length xs ≤ i → slice_get (map f xs) i ≡ None
none_at f [] i past = refl
none_at f (x ∷ xs) zero past = absurd (omega (arith, past))
none_at f (x ∷ xs) (suc i) past = none_at f xs i (omega (arith, past))

-- two lists whose items agree, as they are read
module _ {A B C : Type 0} (f : A → B) (g : C → B) (xs : List A) (ys : List C) (i : ℕ) (y : C) (same : map f xs ≡ map g ys) (there : slice_get ys i ≡ Some y) where
  other : slice_get (map f xs) i ≡ Some (g y)
  other = ap (λ zs. slice_get zs i) same ∙ slice_get-map g ys i ∙ ap (option_map g) there

  pub agree : (x : A) → x ≡ slice_index_or xs i x → i < length xs → f x ≡ g y
  agree x is below = let e = sym (read_at f xs i x is below) ∙ other in cc

  pub not_past : length xs ≤ i → ⊥
  not_past past = let e = sym (none_at f xs i past) ∙ other in cc

-- Elements of lists at their places.
use Rattle.std.proofs.Common.{◌≡◌, ◌<◌, ◌+◌, sym, ap, ◌∙◌, arith, ℕ, zero, suc, List, [], ◌∷◌, length, map, drop, Some}
use Rattle.std.proofs.lemmas.List.{drop_more, length-map}
use Rattle.std.specs.Prelude.{slice_get, slice_index_or}

module _ {A B : Type 0} (f : A → B) where
  read_at : (xs : List A) (i : ℕ) (x : A) → x ≡ slice_index_or xs i x → i < length xs → slice_index_or (map f xs) i (f x) ≡ f x
  read_at [] i x is below = absurd (omega (arith, below))
  read_at (y ∷ ys) zero x is below = ap f (sym is)
  read_at (y ∷ ys) (suc i) x is below = read_at ys i x is (omega (arith, below))

  -- what stands from the i-th place on begins with the i-th element
  pub from_place : (xs : List A) (i : ℕ) (x : A) → x ≡ slice_index_or xs i x → i < length xs → drop i (map f xs) ≡ f x ∷ drop (i + 1) (map f xs)
  from_place xs i x is below =
      let long = length-map xs f in
      drop_more (map f xs) i (f x) (omega (arith, below, long)) ∙ ap (λ first. first ∷ drop (i + 1) (map f xs)) (read_at xs i x is below)

  pub at_place : (xs : List A) (i : ℕ) (x : A) → x ≡ slice_index_or xs i x → i < length xs → slice_get (map f xs) i ≡ Some (f x)
  at_place [] i x is below = absurd (omega (arith, below))
  at_place (y ∷ ys) zero x is below = ap (λ z. Some (f z)) (sym is)
  at_place (y ∷ ys) (suc i) x is below = at_place ys i x is (omega (arith, below))

-- Elements of lists at their places.
use Rattle.std.proofs.Common.{◌≡◌, ◌<◌, ◌+◌, refl, ap, ◌∙◌, arith, ℕ, List, ◌∷◌, length, map, drop, Some}
use Rattle.std.proofs.lemmas.List.{drop_more, length-map}
use Rattle.std.proofs.lemmas.Option.{get_or_from_slice_get, slice_get-map, slice_get_read}
use Rattle.std.specs.Option.{option_map}
use Rattle.std.specs.Prelude.{slice_get, slice_index_or}

module _ {A B : Type 0} (f : A → B) where
  pub at_place : (xs : List A) (i : ℕ) (x : A) → x ≡ slice_index_or xs i x → i < length xs → slice_get (map f xs) i ≡ Some (f x)
  at_place xs i x is below = slice_get-map f xs i ∙ ap (option_map f) (slice_get_read xs (length xs) i x refl below is)

  -- what stands from the i-th place on begins with the i-th element
  pub from_place : (xs : List A) (i : ℕ) (x : A) → x ≡ slice_index_or xs i x → i < length xs → drop i (map f xs) ≡ f x ∷ drop (i + 1) (map f xs)
  from_place xs i x is below =
      let long = length-map xs f in
      drop_more (map f xs) i (f x) (omega (arith, below, long))
      ∙ ap (λ first. first ∷ drop (i + 1) (map f xs)) (get_or_from_slice_get (map f xs) i (f x) (f x) (at_place xs i x is below))

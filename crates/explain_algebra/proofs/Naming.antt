-- No power stands at a parameter whose size has no name: there are letters enough.
use Rattle.std.proofs.Common.{◌≡◌, ◌≢◌, ◌⊎◌, inl, inr, ⊎_elim, ◌≤◌, ◌<◌, ◌+◌, ◌/◌, ◌==◌, ◌&&◌, ◌||◌, not, ℕ, zero, suc, pos, ◌*ℤ◌, ◌+ℤ◌, Bool, true, false, cond, None, Some, List, [], ◌∷◌, length, get_or, filter, refl, sym, ap, ◌∙◌, arith}
use Rattle.std.specs.Prelude.{slice_get, slice_index_or}
use Rattle.std.specs.Cmp.Lexicographic.{bytes_decides}
use Rattle.std.specs.List.{list_all, list_any}
use Rattle.std.specs.Str.{bytes_eq}
use Rattle.std.proofs.lemmas.List.Elements.{All-head, All-tail}
use Rattle.std.proofs.lemmas.Option.{slice_get-get_or}
use Rattle.raml_syntax.specs.Tree.{Text, Type', Integer, Boolean, PairOf, ListOf, TreeOf, OptionOf}
use Rattle.base_poly.specs.Plain.{Plain, Unit', Pair, entry_count}
use Rattle.base_poly.specs.Indices.{IsIndex, AreIndices}
use Rattle.bound_compare.specs.Powers.{falling, fallings, factorials, counts}
use Rattle.bound_compare.proofs.Expanded.{times_zero, zero_times}
use Rattle.explain_algebra.specs.Algebra.{has_size, letters, free_letters, named_from, name_at}
use Rattle.explain_algebra.specs.Laws.{is_shallow, are_shallow, NoneIsUnnamed}
use Rattle.explain_algebra.proofs.Counting.{both}

-- what passes neither test is no fewer than what fails the second, less what passes the first
fewer : (p q : ℕ → Bool) (xs : List ℕ) → length (filter (λ x. not (q x)) xs) ≤ length (filter (λ x. not (p x || q x)) xs) + length (filter p xs)
fewer p q [] = omega arith
fewer p q (x ∷ xs) = by (p x) (q x) (filter (λ x. not (q x)) xs) (filter (λ x. not (p x || q x)) xs) (filter p xs) (fewer p q xs)
  where
    by : (b c : Bool) (kept less lost : List ℕ) → length kept ≤ length less + length lost →
        length (cond (not c) (x ∷ kept) kept) ≤ length (cond (not (b || c)) (x ∷ less) less) + length (cond b (x ∷ lost) lost)
    by true true kept less lost h = omega (arith, h)
    by true false kept less lost h = omega (arith, h)
    by false true kept less lost h = h
    by false false kept less lost h = omega (arith, h)

abbrev are_distinct : List ℕ → Bool
are_distinct [] = true
are_distinct (x ∷ xs) = list_all (λ y. not (y == x)) xs && are_distinct xs

no_other : (x : ℕ) (xs : List ℕ) → list_all (λ y. not (y == x)) xs ≡ true → length (filter (λ y. bytes_eq (y ∷ []) (x ∷ [])) xs) ≡ 0
no_other x [] h = refl
no_other x (y ∷ ys) h =
    let parts = both (not (y == x)) (list_all (λ y. not (y == x)) ys) h in by (y == x) (filter (λ y. bytes_eq (y ∷ []) (x ∷ [])) ys) parts.0 (no_other x ys parts.1)
  where
    by : (b : Bool) (rest : List ℕ) → not b ≡ true → length rest ≡ 0 → length (cond (b && true) (y ∷ rest) rest) ≡ 0
    by true rest h e = cc
    by false rest h e = e

-- at most one of letters that differ is the name
one_named : (p : Text) (xs : List ℕ) → are_distinct xs ≡ true → length (filter (λ x. bytes_eq (x ∷ []) p) xs) ≤ 1
one_named p [] h = omega arith
one_named p (x ∷ xs) h =
    let parts = both (list_all (λ y. not (y == x)) xs) (are_distinct xs) h in
    by (bytes_eq (x ∷ []) p) (filter (λ x. bytes_eq (x ∷ []) p) xs)
    (λ e. ap (λ q. length (filter (λ y. bytes_eq (y ∷ []) q) xs)) (sym ((bytes_decides (x ∷ []) p).0 e)) ∙ no_other x xs parts.0) (one_named p xs parts.1)
  where
    by : (b : Bool) (rest : List ℕ) → (b ≡ true → length rest ≡ 0) → length rest ≤ 1 → length (cond b (x ∷ rest) rest) ≤ 1
    by true rest none h = let e = none refl in omega (arith, e)
    by false rest none h = h

-- So each name takes at most one of the letters.
many_free : (params : List Text) → length letters ≤ length (free_letters params) + length params
many_free [] = omega arith
many_free (p ∷ params) =
    let less = fewer (λ x. bytes_eq (x ∷ []) p) (λ x. list_any (bytes_eq (x ∷ [])) params) letters in
    let one = one_named p letters refl in
    let more = many_free params in
    omega (arith, less, one, more)

-- nothing is picked of such a parameter, so that its exponent is 0
none_picked : (n e : ℕ) → n ≡ 0 → e ≢ 0 → falling n e ≡ pos 0
none_picked zero zero h g = absurd (g refl)
none_picked zero (suc e) h g = refl
none_picked (suc n) e h g = absurd (omega (arith, h))

some_none : (c : ℕ) → Some c ≡ None → ⊥
some_none c h = cc

module _ (xs : List ℕ) where
  -- each parameter with a size has a letter, of letters enough
  letter_is : (k : ℕ) → k < length xs → slice_get xs k ≡ None → ⊥
  letter_is k h e = some_none (get_or xs k 0) (sym (slice_get-get_or xs k 0 h) ∙ e)

  unnamed : (k : ℕ) (A : Type') (As : List Type') → is_shallow A ≡ true → k < length xs →
      name_at (cond (has_size A) (slice_get xs k ∷ named_from xs (suc k) As) (None ∷ named_from xs k As)) zero ≡ None → (i : Plain) → IsIndex i A → entry_count i ≡ 0
  unnamed k Integer As f h e Unit' m = refl
  unnamed k Integer As f h e x m = absurd m
  unnamed k Boolean As f h e Unit' m = refl
  unnamed k Boolean As f h e x m = absurd m
  unnamed k (PairOf A B) As f h e (Pair i i') m = refl
  unnamed k (PairOf A B) As f h e x m = absurd m
  unnamed k (ListOf A) As f h e x m = absurd (letter_is k h e)
  unnamed k (TreeOf A) As f h e x m = absurd (letter_is k h e)
  unnamed k (OptionOf A) As f h e x m = cc

  later : (A : Type') (As : List Type') (k j : ℕ) → name_at (cond (has_size A) (slice_get xs k ∷ named_from xs (suc k) As) (None ∷ named_from xs k As)) (suc j) ≡ None →
      (name_at (named_from xs (suc k) As) j ≡ None) ⊎ (name_at (named_from xs k As) j ≡ None)
  later A As k j = at (has_size A)
    where
      at : (b : Bool) → name_at (cond b (slice_get xs k ∷ named_from xs (suc k) As) (None ∷ named_from xs k As)) (suc j) ≡ None → (name_at (named_from xs (suc k) As) j ≡ None) ⊎ (name_at (named_from xs k As) j ≡ None)
      at true e = inl e
      at false e = inr e

  falls : (k : ℕ) (As : List Type') (is : List Plain) (es : List ℕ) (j : ℕ) → are_shallow As ≡ true → k + length As ≤ length xs → AreIndices is As →
      name_at (named_from xs k As) j ≡ None → slice_index_or es j 0 ≢ 0 → fallings (counts is) es ≡ pos 0
  falls k [] [] [] j f h m e g = absurd (g (no_entry j 0))
    where
      no_entry : (j d : ℕ) → slice_index_or [] j d ≡ d
      no_entry zero d = refl
      no_entry (suc j) d = refl
  falls k [] [] (n ∷ es) j f h m e g = refl
  falls k [] (i ∷ is) es j f h m e g = absurd m
  falls k (A ∷ As) [] es j f h m e g = absurd m
  falls k (A ∷ As) (i ∷ is) [] j f h m e g = refl
  falls k (A ∷ As) (i ∷ is) (n ∷ es) zero f h m e g =
      let flat = both (is_shallow A) (are_shallow As) f in
      ap (λ x. x *ℤ fallings (counts is) es) (none_picked (entry_count i) n (unnamed k A As flat.0 (omega (arith, h)) e i m.0) g) ∙ zero_times (fallings (counts is) es)
  falls k (A ∷ As) (i ∷ is) (n ∷ es) (suc j) f h m e g =
      let flat = both (is_shallow A) (are_shallow As) f in
      ap (λ x. falling (entry_count i) n *ℤ x)
      (⊎_elim (λ e. falls (suc k) As is es j flat.1 (omega (arith, h)) m.1 e g) (λ e. falls k As is es j flat.1 (omega (arith, h)) m.1 e g) (later A As k j e))
      ∙ times_zero (falling (entry_count i) n)

pub none_is_unnamed : NoneIsUnnamed
none_is_unnamed params As [] few f h m es j e g = refl
none_is_unnamed params As (t ∷ ts) few f h m es j e g =
    let free = many_free params in
    let one = falls (free_letters params) 0 As t.0 es j f (omega (arith, few, h, free)) (All-head (λ t. AreIndices t.0 As) t ts m) e g in
    let more = none_is_unnamed params As ts few f h (All-tail (λ t. AreIndices t.0 As) t ts m) es j e g in
    (λ n. pos t.1 *ℤ (pos (24 / factorials (counts t.0)) *ℤ one n) +ℤ more n)
    ∙ ap (λ x. pos t.1 *ℤ x +ℤ pos 0) (times_zero (pos (24 / factorials (counts t.0))))
    ∙ ap (λ x. x +ℤ pos 0) (times_zero (pos t.1))

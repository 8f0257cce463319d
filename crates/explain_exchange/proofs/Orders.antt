-- Lists with exchanged elements, once more: exchanged twice, and sums.
use Rattle.std.proofs.Common.{◌≡◌, ◌∙◌, ◌+◌, ℕ, zero, suc, List, [], ◌∷◌, Option, Some, None, refl, sym, ap, arith}
use Rattle.std.proofs.lemmas.Option.{same_Some}
use Rattle.std.specs.List.{slice_get}
use Rattle.explain_exchange.specs.Exchange.{with_element, exchange_head, exchange}

with_twice : {A : Type 0} (k : ℕ) (x y : A) (xs : List A) → with_element k y (with_element k x xs) ≡ with_element k y xs
with_twice zero x y [] = refl
with_twice (suc k) x y [] = refl
with_twice zero x y (z ∷ zs) = refl
with_twice (suc k) x y (z ∷ zs) = ap (λ ws. z ∷ ws) (with_twice k x y zs)

with_own : {A : Type 0} (k : ℕ) (y : A) (xs : List A) → slice_get xs k ≡ Some y → with_element k y xs ≡ xs
with_own zero y [] e = refl
with_own (suc k) y [] e = refl
with_own zero y (z ∷ zs) e = ap (λ w. w ∷ zs) (sym (same_Some z y e))
with_own (suc k) y (z ∷ zs) e = ap (λ ws. z ∷ ws) (with_own k y zs e)

got : {A : Type 0} (k : ℕ) (x y : A) (xs : List A) → slice_get xs k ≡ Some y → slice_get (with_element k x xs) k ≡ Some x
got zero x y [] e = absurd (cc)
got (suc k) x y [] e = absurd (cc)
got zero x y (z ∷ zs) e = refl
got (suc k) x y (z ∷ zs) e = got k x y zs e

head_twice : {A : Type 0} (x : A) (j : ℕ) (xs : List A) (o : Option A) → slice_get xs j ≡ o → exchange zero (suc j) (exchange_head x o j xs) ≡ x ∷ xs
head_twice x j xs None e = ap (λ o. exchange_head x o j xs) e
head_twice x j xs (Some y) e =
    ap (λ o. exchange_head y o j (with_element j x xs)) (got j x y xs e) ∙ ap (λ ws. x ∷ ws) (with_twice j x y xs ∙ with_own j y xs e)

-- exchanged twice, they are as they were
pub twice : {A : Type 0} (i j : ℕ) (xs : List A) → exchange i j (exchange i j xs) ≡ xs
twice zero zero xs = refl
twice zero (suc j) [] = refl
twice zero (suc j) (x ∷ xs) = head_twice x j xs (slice_get xs j) refl
twice (suc i) zero xs = refl
twice (suc i) (suc j) [] = refl
twice (suc i) (suc j) (x ∷ xs) = ap (λ ws. x ∷ ws) (twice i j xs)

module _ {A : Type 0} (f : A → ℕ) where
  -- nothing is added to each
  abbrev pub total : List A → ℕ
  total [] = 0
  total (x ∷ xs) = f x + (total xs + 0)

  with_total : (k : ℕ) (x y : A) (xs : List A) → slice_get xs k ≡ Some y → f y + total (with_element k x xs) ≡ f x + total xs
  with_total zero x y [] e = absurd (cc)
  with_total (suc k) x y [] e = absurd (cc)
  with_total zero x y (z ∷ zs) e = omega (arith, ap f (same_Some z y e))
  with_total (suc k) x y (z ∷ zs) e = omega (arith, with_total k x y zs e)

  head_total : (x : A) (j : ℕ) (xs : List A) (o : Option A) → slice_get xs j ≡ o → total (exchange_head x o j xs) ≡ f x + (total xs + 0)
  head_total x j xs None e = refl
  head_total x j xs (Some y) e = omega (arith, with_total j x y xs e)

  pub same_total : (i j : ℕ) (xs : List A) → total (exchange i j xs) ≡ total xs
  same_total zero zero xs = refl
  same_total zero (suc j) [] = refl
  same_total zero (suc j) (x ∷ xs) = head_total x j xs (slice_get xs j) refl
  same_total (suc i) zero xs = refl
  same_total (suc i) (suc j) [] = refl
  same_total (suc i) (suc j) (x ∷ xs) = omega (arith, same_total i j xs)

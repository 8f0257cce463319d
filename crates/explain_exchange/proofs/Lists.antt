-- Lists with exchanged elements.
use Rattle.std.proofs.Common.{◌≡◌, ◌∙◌, ◌<◌, ◌≤◌, ℕ, zero, suc, List, [], ◌∷◌, length, map, Option, Some, None, refl, sym, ap, arith}
use Rattle.std.specs.Option.{option_map}
use Rattle.std.specs.List.{slice_get}
use Rattle.std.proofs.lemmas.Option.{slice_get-map, slice_get_past}
use Rattle.explain_exchange.specs.Exchange.{with_element, exchange_head, exchange}

with_length : {A : Type 0} (k : ℕ) (x : A) (xs : List A) → length (with_element k x xs) ≡ length xs
with_length zero x [] = refl
with_length (suc k) x [] = refl
with_length zero x (y ∷ ys) = refl
with_length (suc k) x (y ∷ ys) = ap suc (with_length k x ys)

head_length : {A : Type 0} (x : A) (o : Option A) (k : ℕ) (xs : List A) → length (exchange_head x o k xs) ≡ suc (length xs)
head_length x None k xs = refl
head_length x (Some y) k xs = ap suc (with_length k x xs)

pub same_length : {A : Type 0} (i j : ℕ) (xs : List A) → length (exchange i j xs) ≡ length xs
same_length zero zero xs = refl
same_length zero (suc j) [] = refl
same_length zero (suc j) (x ∷ xs) = head_length x (slice_get xs j) j xs
same_length (suc i) zero xs = refl
same_length (suc i) (suc j) [] = refl
same_length (suc i) (suc j) (x ∷ xs) = ap suc (same_length i j xs)

with_map : {A B : Type 0} (f : A → B) (k : ℕ) (x : A) (xs : List A) → with_element k (f x) (map f xs) ≡ map f (with_element k x xs)
with_map f zero x [] = refl
with_map f (suc k) x [] = refl
with_map f zero x (y ∷ ys) = refl
with_map f (suc k) x (y ∷ ys) = ap (λ zs. f y ∷ zs) (with_map f k x ys)

head_map : {A B : Type 0} (f : A → B) (x : A) (o : Option A) (k : ℕ) (xs : List A) → exchange_head (f x) (option_map f o) k (map f xs) ≡ map f (exchange_head x o k xs)
head_map f x None k xs = refl
head_map f x (Some y) k xs = ap (λ zs. f y ∷ zs) (with_map f k x xs)

pub map_exchange : {A B : Type 0} (f : A → B) (i j : ℕ) (xs : List A) → exchange i j (map f xs) ≡ map f (exchange i j xs)
map_exchange f zero zero xs = refl
map_exchange f zero (suc j) [] = refl
map_exchange f zero (suc j) (x ∷ xs) = ap (λ o. exchange_head (f x) o j (map f xs)) (slice_get-map f xs j) ∙ head_map f x (slice_get xs j) j xs
map_exchange f (suc i) zero xs = refl
map_exchange f (suc i) (suc j) [] = refl
map_exchange f (suc i) (suc j) (x ∷ xs) = ap (λ zs. f x ∷ zs) (map_exchange f i j xs)

-- ---- elements by their places

with_at : {A : Type 0} (k : ℕ) (x : A) (xs : List A) → k < length xs → slice_get (with_element k x xs) k ≡ Some x
with_at k x [] h = absurd (omega (arith, h))
with_at zero x (y ∷ ys) h = refl
with_at (suc k) x (y ∷ ys) h = with_at k x ys (omega (arith, h))

with_elsewhere : {A : Type 0} (k m : ℕ) (x : A) (xs : List A) → (m ≡ k → ⊥) → slice_get (with_element k x xs) m ≡ slice_get xs m
with_elsewhere zero m x [] h = refl
with_elsewhere (suc k) m x [] h = refl
with_elsewhere zero zero x (y ∷ ys) h = absurd (h refl)
with_elsewhere zero (suc m) x (y ∷ ys) h = refl
with_elsewhere (suc k) zero x (y ∷ ys) h = refl
with_elsewhere (suc k) (suc m) x (y ∷ ys) h = with_elsewhere k m x ys (λ e. h (ap suc e))

pub within : {A : Type 0} (xs : List A) (k : ℕ) → k < length xs → (y : A) × (slice_get xs k ≡ Some y)
within [] k h = absurd (omega (arith, h))
within (x ∷ xs) zero h = (x, refl)
within (x ∷ xs) (suc k) h = within xs k (omega (arith, h))

pub at_first : {A : Type 0} (i j : ℕ) (xs : List A) → i < j → j < length xs → slice_get (exchange i j xs) i ≡ slice_get xs j
at_first i zero xs h k = absurd (omega (arith, h))
at_first zero (suc j) [] h k = refl
at_first zero (suc j) (x ∷ xs) h k =
    let y = within xs j (omega (arith, k)) in
    ap (λ o. slice_get (exchange_head x o j xs) zero) y.1 ∙ sym y.1
at_first (suc i) (suc j) [] h k = refl
at_first (suc i) (suc j) (x ∷ xs) h k = at_first i j xs (omega (arith, h)) (omega (arith, k))

pub at_second : {A : Type 0} (i j : ℕ) (xs : List A) → i < j → j < length xs → slice_get (exchange i j xs) j ≡ slice_get xs i
at_second i zero xs h k = absurd (omega (arith, h))
at_second zero (suc j) [] h k = refl
at_second zero (suc j) (x ∷ xs) h k =
    let y = within xs j (omega (arith, k)) in
    ap (λ o. slice_get (exchange_head x o j xs) (suc j)) y.1 ∙ with_at j x xs (omega (arith, k))
at_second (suc i) (suc j) [] h k = refl
at_second (suc i) (suc j) (x ∷ xs) h k = at_second i j xs (omega (arith, h)) (omega (arith, k))

pub elsewhere : {A : Type 0} (i j m : ℕ) (xs : List A) → (m ≡ i → ⊥) → (m ≡ j → ⊥) → slice_get (exchange i j xs) m ≡ slice_get xs m
elsewhere zero zero m xs h k = refl
elsewhere zero (suc j) m [] h k = refl
elsewhere zero (suc j) zero (x ∷ xs) h k = absurd (h refl)
elsewhere zero (suc j) (suc m) (x ∷ xs) h k = by (slice_get xs j)
  where
    by : (o : Option _) → slice_get (exchange_head x o j xs) (suc m) ≡ slice_get xs m
    by None = refl
    by (Some y) = with_elsewhere j m x xs (λ e. k (ap suc e))
elsewhere (suc i) zero m xs h k = refl
elsewhere (suc i) (suc j) m [] h k = refl
elsewhere (suc i) (suc j) zero (x ∷ xs) h k = refl
elsewhere (suc i) (suc j) (suc m) (x ∷ xs) h k = elsewhere i j m xs (λ e. h (ap suc e)) (λ e. k (ap suc e))

pub not_before : {A : Type 0} (i j : ℕ) (xs : List A) → j ≤ i → exchange i j xs ≡ xs
not_before zero zero xs h = refl
not_before zero (suc j) xs h = absurd (omega (arith, h))
not_before (suc i) zero xs h = refl
not_before (suc i) (suc j) [] h = refl
not_before (suc i) (suc j) (x ∷ xs) h = ap (λ zs. x ∷ zs) (not_before i j xs (omega (arith, h)))

pub not_within : {A : Type 0} (i j : ℕ) (xs : List A) → length xs ≤ j → exchange i j xs ≡ xs
not_within zero zero xs h = refl
not_within zero (suc j) [] h = refl
not_within zero (suc j) (x ∷ xs) h = ap (λ o. exchange_head x o j xs) (slice_get_past xs j (omega (arith, h)))
not_within (suc i) zero xs h = refl
not_within (suc i) (suc j) [] h = refl
not_within (suc i) (suc j) (x ∷ xs) h = ap (λ zs. x ∷ zs) (not_within i j xs (omega (arith, h)))

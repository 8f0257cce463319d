-- How many lists of n truth values are not seen.
use Rattle.std.proofs.Common.{◌≡◌, refl, ℕ, zero, suc, ◌+◌, ◌^◌, ◌≤◌, ◌<◌, Bool, true, false, arith, List, [], ◌∷◌, length}

abbrev pub one_unless : Bool → ℕ
one_unless true = 0
one_unless false = 1

abbrev pub unseen : ℕ → (List Bool → Bool) → ℕ
unseen zero seen = one_unless (seen [])
unseen (suc n) seen = unseen n (λ bs. seen (true ∷ bs)) + unseen n (λ bs. seen (false ∷ bs))

-- what is seen stays seen
pub record Grows (f g : List Bool → Bool) : Type 0 where
  pub grows : (bs : List Bool) → f bs ≡ true → g bs ≡ true

ones : (a b : Bool) → (a ≡ true → b ≡ true) → one_unless b ≤ one_unless a
ones true true h = omega arith
ones true false h = absurd (let e : false ≡ true = h refl in (cc))
ones false true h = omega arith
ones false false h = omega arith

unseen_stays : (n : ℕ) (f g : List Bool → Bool) → Grows f g → unseen n g ≤ unseen n f
unseen_stays zero f g h = ones (f []) (g []) (h.grows [])
unseen_stays (suc n) f g h =
    omega (
      arith,
      unseen_stays n (λ bs. f (true ∷ bs)) (λ bs. g (true ∷ bs)) (record { grows = λ bs. h.grows (true ∷ bs) }),
      unseen_stays n (λ bs. f (false ∷ bs)) (λ bs. g (false ∷ bs)) (record { grows = λ bs. h.grows (false ∷ bs) }),
    )

-- one list more is seen
pub unseen_falls : (n : ℕ) (f g : List Bool → Bool) (x : List Bool) → Grows f g → length x ≡ n → f x ≡ false → g x ≡ true → unseen n g < unseen n f
unseen_falls zero f g [] h e p q = rw (p, q) (omega arith)
unseen_falls zero f g (b ∷ x) h e p q = absurd (omega arith)
unseen_falls (suc n) f g [] h e p q = absurd (omega arith)
unseen_falls (suc n) f g (true ∷ x) h e p q =
    omega (
      arith,
      unseen_falls n (λ bs. f (true ∷ bs)) (λ bs. g (true ∷ bs)) x (record { grows = λ bs. h.grows (true ∷ bs) }) (omega arith) p q,
      unseen_stays n (λ bs. f (false ∷ bs)) (λ bs. g (false ∷ bs)) (record { grows = λ bs. h.grows (false ∷ bs) }),
    )
unseen_falls (suc n) f g (false ∷ x) h e p q =
    omega (
      arith,
      unseen_stays n (λ bs. f (true ∷ bs)) (λ bs. g (true ∷ bs)) (record { grows = λ bs. h.grows (true ∷ bs) }),
      unseen_falls n (λ bs. f (false ∷ bs)) (λ bs. g (false ∷ bs)) x (record { grows = λ bs. h.grows (false ∷ bs) }) (omega arith) p q,
    )

-- at first none is seen
pub none_seen : (n : ℕ) → unseen n (λ bs. false) ≡ 2 ^ n
none_seen zero = refl
none_seen (suc n) = omega (arith, none_seen n)

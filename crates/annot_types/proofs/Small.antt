-- Facts of small numbers by computing.
use Rattle.std.proofs.Common.{◌≡◌, ◌≤◌, ◌<◌, ℕ, zero, suc, nat_le, ◌&&◌, Bool, true, arith}
use Rattle.std.proofs.lemmas.Bool.{leb-true, and_parts}

-- each of the first n numbers is at most the other
abbrev pub is_covered : ℕ → (ℕ → ℕ) → (ℕ → ℕ) → Bool
is_covered zero r q = true
is_covered (suc n) r q = nat_le (r 0) (q 0) && is_covered n (λ k. r (suc k)) (λ k. q (suc k))

pub covered : (n : ℕ) (r q : ℕ → ℕ) → is_covered n r q ≡ true → (k : ℕ) → k < n → r k ≤ q k
covered zero r q e k l = absurd (omega (arith, l))
covered (suc n) r q e zero l = leb-true (r 0) (q 0) (and_parts (nat_le (r 0) (q 0)) (is_covered n (λ k. r (suc k)) (λ k. q (suc k))) e).0
covered (suc n) r q e (suc k) l =
    covered n (λ k. r (suc k)) (λ k. q (suc k)) (and_parts (nat_le (r 0) (q 0)) (is_covered n (λ k. r (suc k)) (λ k. q (suc k))) e).1 k (omega (arith, l))

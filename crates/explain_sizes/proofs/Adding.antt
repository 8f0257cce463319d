-- Shares of sums and of products.
use Rattle.std.proofs.Common.{◌≡◌, ◌≤◌, ◌≢◌, ℕ, ◌+◌, ◌-◌, ◌*◌, ◌/◌, ◌%◌, ap, ◌∙◌, arith}

pub below : (den w w1 w2 r1 r2 : ℕ) → w ≡ w1 + w2 → w * den + (r1 + r2) ≡ (w1 * den + r1) + (w2 * den + r2)
below den w w1 w2 r1 r2 e = rw e (grind arith)

pub above : (den w more w1 w2 r1 r2 : ℕ) → w ≡ w1 + w2 → more ≡ w + 1 → den ≤ r1 + r2 → more * den + (r1 + r2 - den) ≡ (w1 * den + r1) + (w2 * den + r2)
above den w more w1 w2 r1 r2 e f h = rw (f, e) (step (r1 + r2) h)
  where
    regroup : (rest : ℕ) → (w1 + w2 + 1) * den + rest ≡ w1 * den + (w2 * den + (den + rest))
    regroup rest = grind arith

    step : (r : ℕ) → den ≤ r1 + r2 → (w1 + w2 + 1) * den + (r1 + r2 - den) ≡ (w1 * den + r1) + (w2 * den + r2)
    step r h = let e = regroup (r1 + r2 - den) in omega (arith, e, h)

-- a number's binary digits

pub even : (n m : ℕ) → m % 2 ≡ 0 → n * (m / 2) + n * (m / 2) ≡ n * m
even n m h =
    let e : m / 2 + m / 2 ≡ m = omega (arith, h) in
    let d : n * (m / 2) + n * (m / 2) ≡ n * (m / 2 + m / 2) = grind arith in
    d ∙ ap (λ k. n * k) e

pub odd : (n m : ℕ) → m % 2 ≢ 0 → n * (m / 2) + n * (m / 2) + n ≡ n * m
odd n m h =
    let e : m / 2 + m / 2 + 1 ≡ m = omega (arith, h) in
    let d : n * (m / 2) + n * (m / 2) + n ≡ n * (m / 2 + m / 2 + 1) = grind arith in
    d ∙ ap (λ k. n * k) e

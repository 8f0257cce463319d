-- Signed numerators and their magnitudes.
use Rattle.std.proofs.Common.{◌≡◌, refl, sym, ap, ◌∙◌, ℕ, zero, suc, ◌*◌, ◌/◌, ◌<◌, ◌≤◌, ◌^◌, ℤ, pos, neg_ℤ, ◌*ℤ◌, arith, Bool, true, false}
use Rattle.std.proofs.lemmas.Int.{ints, unsigned_abs-mul}
use Rattle.std.proofs.lemmas.Nat.{mul-le}
use Rattle.std.specs.Int.{IsGcd}
use Rattle.std.specs.Int.RustNames.{unsigned_abs}
use Rattle.std.proofs.Math.Nat.{mul-div_cancel'}
use lib.IntN.{negsuc}
use lib.Signed.{lt_z}
use Rattle.frac128.specs.declared.Frac.{Frac}
use Rattle.frac128.specs.Lowest.{InLowestTerms, signed_by}
use Rattle.frac128.specs.Values.{IsProduct}

magnitudes : (a : ℤ) (b : ℕ) (c : ℤ) (d : ℕ) (p : ℤ) (q : ℕ) → p *ℤ pos (b * d) ≡ (a *ℤ c) *ℤ pos q → unsigned_abs p * (b * d) ≡ (unsigned_abs a * unsigned_abs c) * q
magnitudes a b c d p q e =
    sym (unsigned_abs-mul p (pos (b * d))) ∙ ap unsigned_abs e ∙ unsigned_abs-mul (a *ℤ c) (pos q) ∙ ap (λ (n : ℕ). n * q) (unsigned_abs-mul a c)

-- no magnitudes are in the range, so no fraction is
pub no_product : (x y : Frac) → ((p q : ℕ) → InLowestTerms p q → p * (x.den * y.den) ≡ (unsigned_abs x.num * unsigned_abs y.num) * q → ⊥) → (r : Frac) → IsProduct x y r → ⊥
no_product x y none r e = none (unsigned_abs r.num) r.den r.lowest (magnitudes x.num x.den y.num y.den r.num r.den e)

too_large : (p n q : ℕ) → p * 1 ≡ n * q → 0 < q → p < 2 ^ 127 → (n < 2 ^ 127 → ⊥) → ⊥
too_large p n q e h k big = let l : n * 1 ≤ n * q = mul-le n 1 n q (omega arith) h in big (omega arith)

-- the product of two whole numbers has no smaller terms
pub no_whole_product : (x y : Frac) → x.den ≡ 1 → y.den ≡ 1 → (unsigned_abs (x.num *ℤ y.num) < 2 ^ 127 → ⊥) → (r : Frac) → IsProduct x y r → ⊥
no_whole_product x y xd yd big r e =
    let m = magnitudes x.num x.den y.num y.den r.num r.den e in
    let k : unsigned_abs (x.num *ℤ y.num) ≡ unsigned_abs x.num * unsigned_abs y.num = unsigned_abs-mul x.num y.num in
    let f : unsigned_abs r.num * 1 ≡ unsigned_abs (x.num *ℤ y.num) * r.den = (rw (xd, yd) at m) ∙ ap (λ (v : ℕ). v * r.den) (sym k) in
    too_large (unsigned_abs r.num) (unsigned_abs (x.num *ℤ y.num)) r.den f r.lowest.positive r.lowest.small big

-- the test of a sign
abbrev is_negative : ℤ → Bool
is_negative (pos n) = false
is_negative (negsuc n) = true

less_is : (z : ℤ) → lt_z z (pos 0) ≡ is_negative z
less_is (pos n) = sym (let e : false ≡ lt_z (pos n) (pos 0) = omega (arith, ints) in e)
less_is (negsuc n) = refl

-- (m / g) d = m (d / g)
pub turned : (m d g : ℕ) → IsGcd m d g → m / g * d ≡ m * (d / g)
turned m d g h = turned_by m d g (m / g) (d / g) (mul-div_cancel' g h.0) (mul-div_cancel' g h.1)
  where
    turned_by : (m d g x y : ℕ) → g * x ≡ m → g * y ≡ d → x * d ≡ m * y
    turned_by m d g x y e f = rw (← e, ← f) (omega arith)

neg_mul : (q d m y : ℕ) → q * d ≡ suc m * y → neg_ℤ (pos q) *ℤ pos d ≡ negsuc m *ℤ pos y
neg_mul zero d m y e = omega (arith, ints)
neg_mul (suc q) d m y e = omega (arith, ints)

by_sign : (n : ℤ) (d g : ℕ) → IsGcd (unsigned_abs n) d g → signed_by (is_negative n) (unsigned_abs n / g) *ℤ pos d ≡ n *ℤ pos (d / g)
by_sign (pos m) d g h = let e = turned m d g h in omega (arith, ints)
by_sign (negsuc m) d g h = neg_mul (suc m / g) d m (d / g) (turned (suc m) d g h)

-- both parts divided by their greatest common divisor: the same value
pub same_value : (n : ℤ) (d g : ℕ) → IsGcd (unsigned_abs n) d g → signed_by (lt_z n (pos 0)) (unsigned_abs n / g) *ℤ pos d ≡ n *ℤ pos (d / g)
same_value n d g h = rw (less_is n) (by_sign n d g h)

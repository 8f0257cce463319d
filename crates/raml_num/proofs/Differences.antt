-- A whole number as the difference of two natural ones, so that `omega` proves identities of rings.
use Rattle.std.proofs.Common.{◌≡◌, ap, ℕ, ◌+◌, ◌*◌, ℤ, pos, neg_ℤ, ◌+ℤ◌, ◌-ℤ◌, ◌*ℤ◌, arith}
use Rattle.std.proofs.lemmas.Int.{ints}
use borrow.Author.Differences.{up, down, same_in, product_is}

unfoldable pub diff : ℕ → ℕ → ℤ
diff p q = pos p -ℤ pos q

pub is_diff : (z : ℤ) → z ≡ diff (up z) (down z)
unfolding diff
is_diff z = omega (arith, ints)

pub diff_same : (p q r s : ℕ) → p + s ≡ r + q → diff p q ≡ diff r s
unfolding diff
diff_same p q r s e = omega (arith, ints)

pub diff-pos : (n : ℕ) → pos n ≡ diff n 0
unfolding diff
diff-pos n = omega (arith, ints)

pub diff-add : (p q r s : ℕ) → diff p q +ℤ diff r s ≡ diff (p + r) (q + s)
unfolding diff
diff-add p q r s = omega (arith, ints)

pub diff-sub : (p q r s : ℕ) → diff p q -ℤ diff r s ≡ diff (p + s) (q + r)
unfolding diff
diff-sub p q r s = omega (arith, ints)

pub diff-neg : (p q : ℕ) → neg_ℤ (diff p q) ≡ diff q p
unfolding diff
diff-neg p q = omega (arith, ints)

parts : (a b : ℤ) (p q r s : ℕ) → up a + q ≡ down a + p → up b + s ≡ down b + r → up (a *ℤ b) + (p * s + q * r) ≡ down (a *ℤ b) + (p * r + q * s)
parts a b p q r s e f = omega (arith, product_is a b, ap (λ (n : ℕ). n * up b) e, ap (λ (n : ℕ). n * down b) e, ap (λ (n : ℕ). n * p) f, ap (λ (n : ℕ). n * q) f)

diff_parts : (p q : ℕ) → up (diff p q) + q ≡ down (diff p q) + p
unfolding diff
diff_parts p q = omega (arith, ints)

pub diff-mul : (p q r s : ℕ) → diff p q *ℤ diff r s ≡ diff (p * r + q * s) (p * s + q * r)
diff-mul p q r s = same_in _ _ (omega (arith, parts (diff p q) (diff r s) p q r s (diff_parts p q) (diff_parts r s), diff_parts (p * r + q * s) (p * s + q * r)))

pub ruleset diffs = (diff-add, diff-sub, diff-neg, diff-mul)

pub mul_assoc : (a b c : ℤ) → (a *ℤ b) *ℤ c ≡ a *ℤ (b *ℤ c)
mul_assoc a b c = rw (is_diff a, is_diff b, is_diff c) (simp diffs (diff_same _ _ _ _ (omega arith)))

pub mul_over : (a b c : ℤ) → a *ℤ (b +ℤ c) ≡ a *ℤ b +ℤ a *ℤ c
mul_over a b c = rw (is_diff a, is_diff b, is_diff c) (simp diffs (diff_same _ _ _ _ (omega arith)))

pub mul_over_minus : (a b c : ℤ) → a *ℤ (b -ℤ c) ≡ a *ℤ b -ℤ a *ℤ c
mul_over_minus a b c = rw (is_diff a, is_diff b, is_diff c) (simp diffs (diff_same _ _ _ _ (omega arith)))

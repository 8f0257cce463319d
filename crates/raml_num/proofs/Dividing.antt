-- Common divisors: Gauss's lemma, and what follows for lowest terms.
use Rattle.std.proofs.Common.{◌≡◌, refl, sym, subst, ◌∙◌, ℕ, zero, suc, ◌+◌, ◌-◌, ◌*◌, ◌/◌, ◌≤◌, ◌<◌, arith, mul_comm, ◌⊎◌, inl, inr}
use Rattle.std.proofs.lemmas.Nat.Gcd.{IsGcd-from_zero, IsGcd-from_sub, IsGcd-swap, same_from_IsGcd, dvd_refl, dvd_trans, dvd_antisymm, le_of_dvd}
use Rattle.std.proofs.Math.Nat.{mul-sub, mul-dvd-mul_left, dvd_of_mul-dvd-mul_left, dvd-sub, dvd-mul_right, dvd-mul_left, one-dvd, eq-one_of_dvd-one, eq-zero_of_zero-dvd, mul-div_cancel'}
use Rattle.std.specs.Int.{IsGcd}
use Prim.Native.Nat.{◌∣◌}
use Rattle.raml_num.specs.Divisors.{IsCoprime}

cases : (m n : ℕ) → (n ≤ m) ⊎ (m ≤ n)
cases m n = grind arith

less : (m n c : ℕ) → m * c - n * c ≡ (m - n) * c
less m n c = rw (mul_comm m c, mul_comm n c, mul_comm (m - n) c) (sym (mul-sub c m n))

-- whatever divides m c and n c divides g c, for the greatest common divisor g of m and n
pub through : (fuel m n d c : ℕ) → m + n ≤ fuel → d ∣ m * c → d ∣ n * c → (g : ℕ) × IsGcd m n g × (d ∣ g * c)
through fuel m zero d c h p q = (m, IsGcd-from_zero m 0 refl, p)
through zero m (suc n) d c h p q = absurd (omega arith)
through (suc f) zero (suc n) d c h p q = (suc n, IsGcd-swap _ _ _ (IsGcd-from_zero (suc n) 0 refl), q)
through (suc f) (suc m) (suc n) d c h p q =
    elim (cases (suc m) (suc n)) [
      | inl le ↦
          let P : ℕ → Type 0 = λ v. d ∣ v in
          let r = through f (suc m - suc n) (suc n) d c (omega arith) (subst P (less (suc m) (suc n) c) (dvd-sub d p q)) q in
          (r.0, IsGcd-from_sub (suc m) (suc n) r.0 le r.1, r.2)
      | inr le ↦
          let P : ℕ → Type 0 = λ v. d ∣ v in
          let r = through f (suc n - suc m) (suc m) d c (omega arith) (subst P (less (suc n) (suc m) c) (dvd-sub d q p)) p in
          (r.0, IsGcd-swap _ _ _ (IsGcd-from_sub (suc n) (suc m) r.0 le r.1), r.2)
    ]

pub gcd_one : (a b : ℕ) → IsCoprime a b → IsGcd a b 1
gcd_one a b h = (one-dvd a, one-dvd b, λ d p q. let P : ℕ → Type 0 = λ v. v ∣ 1 in subst P (sym (h.common d p q)) (dvd_refl 1))

pub coprime_from : (a b : ℕ) → IsGcd a b 1 → IsCoprime a b
coprime_from a b h = record { common = λ d p q. eq-one_of_dvd-one (h.2 d p q) }

-- Gauss
pub gauss : (a b c : ℕ) → IsCoprime a b → a ∣ b * c → a ∣ c
gauss a b c h p =
    let r = through (a + b) a b a c (omega arith) (dvd-mul_right a c) p in
    let e : r.0 ≡ 1 = same_from_IsGcd a b r.0 1 r.1 (gcd_one a b h) in
    let P : ℕ → Type 0 = λ v. a ∣ v in
    let f : r.0 * c ≡ c = rw e (omega arith) in
    subst P f r.2

pub coprime_swap : (a b : ℕ) → IsCoprime a b → IsCoprime b a
coprime_swap a b h = record { common = λ d p q. h.common d q p }

pub coprime_parts : (a b x y : ℕ) → x ∣ a → y ∣ b → IsCoprime a b → IsCoprime x y
coprime_parts a b x y p q h = record { common = λ d i j. h.common d (dvd_trans d i p) (dvd_trans d j q) }

pub coprime_product : (a b c : ℕ) → IsCoprime a b → IsCoprime a c → IsCoprime a (b * c)
coprime_product a b c h k = record {
  common = λ d p q.
      k.common d p (gauss d b c (record { common = λ e i j. h.common e (dvd_trans e i p) j }) q);
}

-- both divided by their greatest common divisor
pub coprime_reduced : (x y g : ℕ) → 0 < g → IsGcd (g * x) (g * y) g → IsCoprime x y
coprime_reduced x y g pos h = record {
  common = λ d p q.
      let P : ℕ → Type 0 = λ v. g * d ∣ v in
      let e : g ≡ g * 1 = omega arith in
      eq-one_of_dvd-one (dvd_of_mul-dvd-mul_left d pos (subst P e (h.2 (g * d) (mul-dvd-mul_left d g p) (mul-dvd-mul_left d g q))));
}

-- a/b in lowest terms is the least of its value: p/q = a/b has a | p and b | q
pub lowest_divides : (a b p q : ℕ) → IsCoprime a b → p * b ≡ a * q → (a ∣ p) × (b ∣ q)
lowest_divides a b p q h e =
    let A : ℕ → Type 0 = λ v. a ∣ v in
    let B : ℕ → Type 0 = λ v. b ∣ v in
    (gauss a b p h (subst A (sym e ∙ mul_comm p b) (dvd-mul_right a q)), gauss b a q (coprime_swap a b h) (subst B e (dvd-mul_left b p)))

a_part : (a b p q : ℕ) → 0 < q → p * b ≡ a * q → a ∣ p → a ≤ p
a_part a b zero (suc q) pos e d = grind arith
a_part a b zero zero pos e d = absurd (omega arith)
a_part a b (suc p) q pos e d = le_of_dvd (omega arith) d

pub lowest_least : (a b p q : ℕ) → IsCoprime a b → 0 < b → 0 < q → p * b ≡ a * q → (a ≤ p) × (b ≤ q)
lowest_least a b p q h pos qpos e =
    let r = lowest_divides a b p q h e in
    (a_part a b p q qpos e r.0, le_of_dvd qpos r.1)

-- lowest terms are unique
pub lowest_unique : (a b p q : ℕ) → IsCoprime a b → IsCoprime p q → p * b ≡ a * q → (a ≡ p) × (b ≡ q)
lowest_unique a b p q h k e =
    let r = lowest_divides a b p q h e in
    let s = lowest_divides p q a b k (sym e) in
    (dvd_antisymm r.0 s.0, dvd_antisymm r.1 s.1)

-- a greatest common divisor is positive where one of the two is
pub positive_gcd : (a b g : ℕ) → 0 < b → IsGcd a b g → 0 < g
positive_gcd a b zero pos h = let e : b ≡ 0 = eq-zero_of_zero-dvd h.1 in absurd (omega arith)
positive_gcd a b (suc g) pos h = omega arith

-- and so is what it leaves of a positive number
pub positive_part : (g a : ℕ) → 0 < a → g ∣ a → 0 < a / g
positive_part g a pos h = grind (arith, mul-div_cancel' g h)

-- what is left of both has no common divisor
pub reduced : (a b g : ℕ) → 0 < b → IsGcd a b g → IsCoprime (a / g) (b / g)
reduced a b g pos h = coprime_reduced (a / g) (b / g) g (positive_gcd a b g pos h) (rw (mul-div_cancel' g h.0, mul-div_cancel' g h.1) h)

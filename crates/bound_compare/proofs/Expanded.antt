-- An expansion has at each exponents the product of the falling products' coefficients.
use Rattle.std.proofs.Common.{◌≡◌, ◌≤◌, ◌+◌, ◌*◌, ◌==◌, ◌&&◌, ℕ, zero, suc, ℤ, pos, negsuc, ◌*ℤ◌, Bool, true, false, cond, List, [], ◌∷◌, refl, sym, ap, ◌∙◌, arith}
use Rattle.std.specs.Str.{bytes_eq}
use Rattle.std.proofs.Math.IntN.{neg_ℤ}
use Rattle.std.proofs.lemmas.Bool.{ne_eqb}
use Rattle.std.proofs.lemmas.Int.{ints}
use Rattle.base_poly.specs.Base.{total}
use Rattle.base_poly.proofs.Sums.{total_map, total_parts, total_none}
use Rattle.bound_compare.specs.Powers.{Powers, falling, fallings, above, below}
use Rattle.bound_compare.specs.Steps.{factors, led, expansion}

-- the sum of what a function makes of the numbers at the exponents
abbrev pub at_sum : (ℤ → ℕ) → List ℕ → Powers → ℕ
at_sum g es ps = total (λ p. cond (bytes_eq es p.0) (g p.1) 0) ps

abbrev pub IsLow : List ℕ → Type 0
IsLow [] = Unit {0}
IsLow (k ∷ ks) = (k ≤ 4) × IsLow ks

off : (e j x : ℕ) → (e ≡ j → ⊥) → cond (e == j) x 0 ≡ 0
off e j x apart = ap (λ b. cond b x 0) (ne_eqb e j apart)

-- the table has the coefficients
table : (h : ℤ → ℕ) → h (pos 0) ≡ 0 → (k e : ℕ) → k ≤ 4 → total (λ f. cond (e == f.0) (h f.1) 0) (factors k) ≡ h (falling k e)
table h z zero zero l = omega (arith, z)
table h z zero (suc e) l = let a0 = off (suc e) 0 (h (pos 1)) (λ q. omega (arith, q)) in omega (arith, z, a0)
table h z (suc zero) zero l = omega (arith, z)
table h z (suc zero) (suc zero) l = omega (arith, z)
table h z (suc zero) (suc (suc e)) l = let a0 = off (suc (suc e)) 1 (h (pos 1)) (λ q. omega (arith, q)) in omega (arith, z, a0)
table h z (suc (suc zero)) zero l = omega (arith, z)
table h z (suc (suc zero)) (suc zero) l = omega (arith, z)
table h z (suc (suc zero)) (suc (suc zero)) l = omega (arith, z)
table h z (suc (suc zero)) (suc (suc (suc e))) l = let a0 = off (suc (suc (suc e))) 1 (h (negsuc 0)) (λ q. omega (arith, q)) in let a1 = off (suc (suc (suc e))) 2 (h (pos 1)) (λ q. omega (arith, q)) in omega (arith, z, a0, a1)
table h z (suc (suc (suc zero))) zero l = omega (arith, z)
table h z (suc (suc (suc zero))) (suc zero) l = omega (arith, z)
table h z (suc (suc (suc zero))) (suc (suc zero)) l = omega (arith, z)
table h z (suc (suc (suc zero))) (suc (suc (suc zero))) l = omega (arith, z)
table h z (suc (suc (suc zero))) (suc (suc (suc (suc e)))) l = let a0 = off (suc (suc (suc (suc e)))) 1 (h (pos 2)) (λ q. omega (arith, q)) in let a1 = off (suc (suc (suc (suc e)))) 2 (h (negsuc 2)) (λ q. omega (arith, q)) in let a2 = off (suc (suc (suc (suc e)))) 3 (h (pos 1)) (λ q. omega (arith, q)) in omega (arith, z, a0, a1, a2)
table h z (suc (suc (suc (suc zero)))) zero l = omega (arith, z)
table h z (suc (suc (suc (suc zero)))) (suc zero) l = omega (arith, z)
table h z (suc (suc (suc (suc zero)))) (suc (suc zero)) l = omega (arith, z)
table h z (suc (suc (suc (suc zero)))) (suc (suc (suc zero))) l = omega (arith, z)
table h z (suc (suc (suc (suc zero)))) (suc (suc (suc (suc zero)))) l = omega (arith, z)
table h z (suc (suc (suc (suc zero)))) (suc (suc (suc (suc (suc e))))) l = let a0 = off (suc (suc (suc (suc (suc e))))) 1 (h (negsuc 5)) (λ q. omega (arith, q)) in let a1 = off (suc (suc (suc (suc (suc e))))) 2 (h (pos 11)) (λ q. omega (arith, q)) in let a2 = off (suc (suc (suc (suc (suc e))))) 3 (h (negsuc 5)) (λ q. omega (arith, q)) in let a3 = off (suc (suc (suc (suc (suc e))))) 4 (h (pos 1)) (λ q. omega (arith, q)) in omega (arith, z, a0, a1, a2, a3)
table h z (suc (suc (suc (suc (suc k))))) e l = absurd (omega arith)

pub times_zero : (x : ℤ) → x *ℤ pos 0 ≡ pos 0
times_zero x = grind (arith, ints)

pub zero_times : (x : ℤ) → pos 0 *ℤ x ≡ pos 0
zero_times x = grind (arith, ints)

-- one power before the others
led_at : (g : ℤ → ℕ) (e : ℕ) (es : List ℕ) (f : ℕ × ℤ) (ps : Powers) → at_sum g (e ∷ es) (led ps f) ≡ cond (e == f.0) (at_sum (λ x. g (f.1 *ℤ x)) es ps) 0
led_at g e es f ps = total_map (λ p. cond (bytes_eq (e ∷ es) p.0) (g p.1) 0) (λ p. (f.0 ∷ p.0, f.1 *ℤ p.1)) ps ∙ by (e == f.0) ps
  where
    by : (b : Bool) (xs : Powers) → total (λ p. cond (b && bytes_eq es p.0) (g (f.1 *ℤ p.1)) 0) xs ≡ cond b (at_sum (λ x. g (f.1 *ℤ x)) es xs) 0
    by true xs = refl
    by false [] = refl
    by false (x ∷ xs) = let more = by false xs in omega (arith, more)

pub expanded : (g : ℤ → ℕ) → g (pos 0) ≡ 0 → (ks es : List ℕ) → IsLow ks → at_sum g es (expansion ks) ≡ g (fallings ks es)
expanded g z [] [] low = omega arith
expanded g z [] (e ∷ es) low = sym z
expanded g z (k ∷ ks) [] low =
    total_parts (λ p. cond (bytes_eq [] p.0) (g p.1) 0) (led (expansion ks)) (factors k)
    ∙ total_none (λ f. at_sum g [] (led (expansion ks) f)) (factors k) (λ f. none f (expansion ks)) ∙ sym z
  where
    none : (f : ℕ × ℤ) (ps : Powers) → at_sum g [] (led ps f) ≡ 0
    none f [] = refl
    none f (p ∷ ps) = let more = none f ps in omega (arith, more)
expanded g z (k ∷ ks) (e ∷ es) low =
    total_parts (λ p. cond (bytes_eq (e ∷ es) p.0) (g p.1) 0) (led (expansion ks)) (factors k)
    ∙ each (λ f. expanded (λ x. g (f.1 *ℤ x)) (ap g (times_zero f.1) ∙ z) ks es low.1) (factors k)
    ∙ table (λ x. g (x *ℤ fallings ks es)) (ap g (zero_times (fallings ks es)) ∙ z) k e low.0
  where
    each : ((f : ℕ × ℤ) → at_sum (λ x. g (f.1 *ℤ x)) es (expansion ks) ≡ g (f.1 *ℤ fallings ks es)) → (fs : List (ℕ × ℤ)) →
        total (λ f. at_sum g (e ∷ es) (led (expansion ks) f)) fs ≡ total (λ f. cond (e == f.0) (g (f.1 *ℤ fallings ks es)) 0) fs
    each more [] = refl
    each more (f ∷ fs) = λ n. (led_at g e es f (expansion ks) ∙ ap (λ m. cond (e == f.0) m 0) (more f)) n + each more fs n

-- what is above 0 in a product, and what is below

pub negated : (m : ℕ) → (above (neg_ℤ (pos m)) ≡ 0) × (below (neg_ℤ (pos m)) ≡ m)
negated zero = (refl, refl)
negated (suc m) = (refl, refl)

pub above_scaled : (q : ℕ) (x : ℤ) → above (pos q *ℤ x) ≡ q * above x
above_scaled q (pos n) = refl
above_scaled q (negsuc n) = (negated (q * suc n)).0 ∙ omega arith

pub below_scaled : (q : ℕ) (x : ℤ) → below (pos q *ℤ x) ≡ q * below x
below_scaled q (pos n) = omega arith
below_scaled q (negsuc n) = (negated (q * suc n)).1

-- Lowest terms, and products that are cancelled crosswise.
use Rattle.std.proofs.Common.{◌≡◌, ap, subst, ℕ, ◌^◌, ◌*◌, ◌/◌, ◌<◌, arith, Some, None}
use Rattle.std.proofs.Math.Nat.{one-dvd, dvd-mul_right, mul-div_cancel', eq_of_mul-eq-mul_right, mul-pos, div-le_self, eq-one_of_dvd-one}
use Rattle.std.proofs.lemmas.Nat.Gcd.{dvd_refl}
use Rattle.std.specs.Int.{IsGcd}
use Prim.Native.Nat.{◌∣◌}
use Rattle.raml_num.specs.Divisors.{IsCoprime}
use Rattle.raml_num.proofs.Dividing.{coprime_from, coprime_swap, coprime_parts, coprime_product, lowest_least, positive_part, reduced}
use Rattle.frac128.specs.Lowest.{InLowestTerms, TellsLowest}

pub over_one : (n : ℕ) → n < 2 ^ 127 → InLowestTerms n 1
over_one n h = record { small = h; positive = omega arith; fits = omega arith; coprime = record { common = λ d p q. eq-one_of_dvd-one q } }

-- where only 1 can be common, the terms are the lowest
pub nothing_common : (n d s : ℕ) → n < 2 ^ 127 → 0 < d → d < 2 ^ 127 → ((k : ℕ) → IsGcd n s k → IsGcd n d k) → s ≡ 1 → InLowestTerms n d
nothing_common n d s h p k f e = record {
  small = h;
  positive = p;
  fits = k;
  coprime = coprime_from n d (f 1 (rw e (one-dvd n, dvd_refl 1, λ e i j. j)));
}

pub lowest_terms : (n d g : ℕ) → n < 2 ^ 127 → 0 < d → d < 2 ^ 127 → IsGcd n d g → InLowestTerms (n / g) (d / g)
lowest_terms n d g h p k i = record {
  small = omega (arith, div-le_self n g);
  positive = positive_part g d p i.1;
  fits = omega (arith, div-le_self d g);
  coprime = reduced n d g p i;
}

-- n/m is the product of a/b and c/d, and no number divides both
pub record IsCrossed (a b c d n m : ℕ) : Type 0 where
  pub product : n * (b * d) ≡ (a * c) * m
  pub lowest : IsCoprime n m
  pub positive : 0 < m

part : (g a : ℕ) → g ∣ a → (a / g) ∣ a
part g a h = let P : ℕ → Type 0 = λ v. (a / g) ∣ v in subst P (ap (λ (n : ℕ). n) (omega (arith, mul-div_cancel' g h))) (dvd-mul_right (a / g) g)

regroup : (a b c d g h x y u v : ℕ) → g * x ≡ a → h * u ≡ b → h * y ≡ c → g * v ≡ d → (x * y) * (b * d) ≡ (a * c) * (u * v)
regroup a b c d g h x y u v p q r s = rw (← p, ← q, ← r, ← s) (omega arith)

-- a with d and c with b, each pair divided by its greatest common divisor
crossed : (a b c d g h : ℕ) → InLowestTerms a b → InLowestTerms c d → IsGcd a d g → IsGcd c b h → IsCrossed a b c d ((a / g) * (c / h)) ((b / h) * (d / g))
crossed a b c d g h ab cd ig ih =
    let xu = coprime_parts a b (a / g) (b / h) (part g a ig.0) (part h b ih.1) ab.coprime in
    let yv = coprime_parts c d (c / h) (d / g) (part h c ih.0) (part g d ig.1) cd.coprime in
    let xv = reduced a d g cd.positive ig in
    let yu = reduced c b h ab.positive ih in
    record {
      product = regroup a b c d g h (a / g) (c / h) (b / h) (d / g) (mul-div_cancel' g ig.0) (mul-div_cancel' h ih.1) (mul-div_cancel' h ih.0) (mul-div_cancel' g ig.1);
      lowest = coprime_swap _ _ (coprime_product _ _ _ (coprime_swap _ _ (coprime_product _ _ _ xu xv)) (coprime_swap _ _ (coprime_product _ _ _ yu yv)));
      positive = mul-pos (positive_part h b ab.positive ih.1) (positive_part g d cd.positive ig.1);
    }

pub crossed_by : (a b c d g h x y u v : ℕ) → InLowestTerms a b → InLowestTerms c d → IsGcd a d g → IsGcd c b h → x ≡ a / g → y ≡ c / h → u ≡ b / h → v ≡ d / g → IsCrossed a b c d (x * y) (u * v)
crossed_by a b c d g h x y u v ab cd ig ih p q r s = rw (p, q, r, s) (crossed a b c d g h ab cd ig ih)

turn : (n m p q s t : ℕ) → n * s ≡ t * m → p * s ≡ t * q → (p * m) * s ≡ (n * q) * s
turn n m p q s t e f =
    let i : (p * s) * m ≡ (t * q) * m = ap (λ (v : ℕ). v * m) f in
    let j : (n * s) * q ≡ (t * m) * q = ap (λ (v : ℕ). v * q) e in
    omega arith

-- where the lowest terms leave the range, no fraction of their value is in it
pub none_fits : (a b c d n m : ℕ) → 0 < b → 0 < d → IsCrossed a b c d n m → (n < 2 ^ 127 → m < 2 ^ 127 → ⊥)
    → TellsLowest (a * c) (b * d) None
none_fits a b c d n m bpos dpos k big p q l e =
    let qpos : 0 < q = l.positive in
    let u : p < 2 ^ 127 = l.small in
    let v : q < 2 ^ 127 = l.fits in
    let w = lowest_least n m p q k.lowest k.positive qpos (eq_of_mul-eq-mul_right (b * d) (mul-pos bpos dpos) _ _ (turn n m p q (b * d) (a * c) k.product e)) in
    big (omega arith) (omega arith)

pub these_fit : (a b c d n m s t : ℕ) → IsCrossed a b c d n m → n < 2 ^ 127 → m < 2 ^ 127 → s ≡ n → t ≡ m → TellsLowest (a * c) (b * d) (Some (s, t))
these_fit a b c d n m s t k f g e i = rw (e, i) (record { small = f; positive = k.positive; fits = g; coprime = k.lowest }, k.product)

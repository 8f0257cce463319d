-- The least common multiple of two numbers, by their greatest common divisor.
use Rattle.std.proofs.Common.{◌≡◌, sym, subst, ℕ, ◌*◌, ◌/◌, ◌≤◌, ◌<◌, ◌^◌, arith, Option, Some, None, MatchOption}
use Rattle.std.specs.Option.{SomeIff}
use Rattle.std.proofs.lemmas.Nat.Gcd.{dvd_trans, le_of_dvd}
use Rattle.std.proofs.Math.Nat.{dvd-mul_left, dvd-mul_right, mul-dvd-mul_left, dvd_of_mul-dvd-mul_left, mul-div_cancel'}
use Rattle.std.specs.Int.{IsGcd}
use Prim.Native.Nat.{◌∣◌}
use Rattle.raml_num.specs.Divisors.{IsCoprime, IsLcm, EachCommonMultipleLeaves}
use Rattle.raml_num.proofs.Dividing.{gauss, coprime_swap, positive_gcd, reduced}

-- what two numbers without a common divisor divide, their product divides
coprime_divides : (x y k : ℕ) → IsCoprime x y → x ∣ k → y ∣ k → x * y ∣ k
coprime_divides x y k h p q =
    let e : x * (k / x) ≡ k = mul-div_cancel' x p in
    let D : ℕ → Type 0 = λ v. y ∣ v in
    let E : ℕ → Type 0 = λ v. x * y ∣ v in
    subst E e (mul-dvd-mul_left y x (gauss y x (k / x) (coprime_swap x y h) (subst D (sym e) q)))

-- x y g is the least common multiple of g x and g y, where x and y have no common divisor
by_parts : (g x y : ℕ) → 0 < g → IsCoprime x y → IsLcm (g * x) (g * y) (x * (g * y))
by_parts g x y h k =
    let e : (g * x) * y ≡ x * (g * y) = omega arith in
    let A : ℕ → Type 0 = λ v. g * x ∣ v in (
      subst A e (dvd-mul_right (g * x) y),
      dvd-mul_left (g * y) x,
      λ n p q.
          let d : g ∣ n = dvd_trans g (dvd-mul_right g x) p in
          let r : g * (n / g) ≡ n = mul-div_cancel' g d in
          let X : ℕ → Type 0 = λ v. g * x ∣ v in
          let Y : ℕ → Type 0 = λ v. g * y ∣ v in
          let s : x * y ∣ n / g = coprime_divides x y (n / g) k (dvd_of_mul-dvd-mul_left x h (subst X (sym r) p)) (dvd_of_mul-dvd-mul_left y h (subst Y (sym r) q)) in
          let t : g * (x * y) ≡ x * (g * y) = omega arith in
          let N : ℕ → Type 0 = λ v. v ∣ n in
          let M : ℕ → Type 0 = λ v. g * (x * y) ∣ v in
          subst N t (subst M r (mul-dvd-mul_left (x * y) g s)),
    )

-- (a / g) b is the least common multiple of a and b, where g is their greatest common divisor
pub is_lcm : (a b g : ℕ) → 0 < b → IsGcd a b g → IsLcm a b (a / g * b)
is_lcm a b g h i =
    let e : g * (a / g) ≡ a = mul-div_cancel' g i.0 in
    let f : g * (b / g) ≡ b = mul-div_cancel' g i.1 in
    let m : IsLcm (g * (a / g)) (g * (b / g)) (a / g * (g * (b / g))) = by_parts g (a / g) (b / g) (positive_gcd a b g h i) (reduced a b g h i) in
    let P : ℕ → Type 0 = λ v. IsLcm v b (a / g * b) in
    let Q : ℕ → Type 0 = λ v. IsLcm (g * (a / g)) v (a / g * v) in
    subst P e (subst Q f m)

-- where it does not fit, no positive common multiple does
pub is_told : (a b g : ℕ) (told : Option ℕ) → 0 < b → IsGcd a b g → SomeIff told (a / g * b < 2 ^ 128) (a / g * b) → MatchOption told (EachCommonMultipleLeaves a b) (IsLcm a b)
is_told a b g None h i big = λ n pos p q. let l : a / g * b ≤ n = le_of_dvd pos ((is_lcm a b g h i).2 n p q) in omega (arith, big)
is_told a b g (Some m) h i fits = rw fits.1 (is_lcm a b g h i)

-- Binomial coefficients as products.
use Rattle.std.proofs.Common.{◌≡◌, ◌<◌, ℕ, zero, suc, ◌+◌, ◌-◌, ◌*◌, ◌/◌, refl, sym, subst, ap, ◌∙◌, arith}
use Rattle.std.proofs.Math.Nat.{mul-div_cancel', mul-div_cancel_left, dvd-mul_left}
use Rattle.std.specs.Int.{IsGcd}
use Prim.Native.Nat.{◌∣◌}
use Rattle.raml_num.proofs.Dividing.{positive_gcd, positive_part, reduced, coprime_swap, gauss}
use Rattle.base_poly.specs.Laws.{choose}

pub one_of : (n : ℕ) → choose n 1 ≡ n
one_of zero = refl
one_of (suc n) = let e = one_of n in omega (arith, e)

twice : (n : ℕ) → choose (suc n) 2 * 2 ≡ (n + 1) * n
twice zero = refl
twice (suc n) =
    let one = one_of (suc n) in
    let more = twice n in
    let e : (choose (suc n) 1 + choose (suc n) 2) * 2 ≡ choose (suc n) 1 * 2 + choose (suc n) 2 * 2 = grind arith in
    e ∙ (λ m. one m * 2 + more m) ∙ grind arith

pub two_of : (n : ℕ) → choose n 2 * 2 ≡ n * (n - 1)
two_of zero = refl
two_of (suc n) =
    let e : suc n - 1 ≡ n = omega arith in
    let f : n + 1 ≡ suc n = omega arith in
    twice n ∙ (λ m. f m * sym e m)

thrice : (n : ℕ) → choose (suc (suc n)) 3 * 3 ≡ choose (suc (suc n)) 2 * n
thrice zero = refl
thrice (suc n) =
    let one = one_of (suc (suc n)) in
    let two = twice (suc n) in
    let more = thrice n in
    step (choose (suc (suc n)) 1) (choose (suc (suc n)) 2) (choose (suc (suc n)) 3) one two more
  where
    step : (a b c : ℕ) → a ≡ suc (suc n) → b * 2 ≡ (suc n + 1) * suc n → c * 3 ≡ b * n → (b + c) * 3 ≡ (a + b) * suc n
    step a b c p q r =
        let e : (b + c) * 3 ≡ b * n + b + b * 2 = omega (arith, r) in
        let f : (a + b) * suc n ≡ a * suc n + (b * n + b) = grind arith in
        let g : a * suc n ≡ b * 2 = ap (λ k. k * suc n) p ∙ grind (arith, q) in
        omega (arith, e, f, g)

pub three_of : (n : ℕ) → choose n 3 * 3 ≡ choose n 2 * (n - 2)
three_of zero = refl
three_of (suc zero) = refl
three_of (suc (suc n)) =
    let e : suc (suc n) - 2 ≡ n = omega arith in
    thrice n ∙ ap (λ k. choose (suc (suc n)) 2 * k) (sym e)

six_times : (n : ℕ) → choose (suc (suc n)) 4 * 6 ≡ choose (suc (suc n)) 2 * choose n 2
six_times zero = refl
six_times (suc n) =
    step (choose (suc (suc n)) 1) (choose (suc (suc n)) 2) (choose (suc (suc n)) 3) (choose (suc (suc n)) 4) (choose n 1) (choose n 2)
    (one_of (suc (suc n))) (twice (suc n)) (thrice n) (six_times n) (one_of n) (halves n)
  where
    halves : (n : ℕ) → choose n 2 * 2 + n ≡ n * n
    halves zero = refl
    halves (suc n) = let e = twice n in let f : suc n * suc n ≡ (n + 1) * n + suc n = grind arith in omega (arith, e, f)

    step : (a b c d e p : ℕ) → a ≡ suc (suc n) → b * 2 ≡ (suc n + 1) * suc n → c * 3 ≡ b * n → d * 6 ≡ b * p → e ≡ n → p * 2 + n ≡ n * n → (c + d) * 6 ≡ (a + b) * (e + p)
    step a b c d e p ha hb hc hd he hp =
        let left : (c + d) * 6 ≡ b * n + b * n + b * p = omega (arith, hc, hd) in
        let right : (a + b) * (e + p) ≡ suc (suc n) * (n + p) + (b * n + b * p) = (λ m. (ha m + b) * (he m + p)) ∙ grind arith in
        let turn : b * n * 2 ≡ b * 2 * n = grind arith in
        let f : b * n * 2 ≡ suc (suc n) * (n + 1) * n = turn ∙ ap (λ m. m * n) hb ∙ grind arith in
        let g : suc (suc n) * (n + p) * 2 ≡ suc (suc n) * (n + (p * 2 + n)) = grind arith in
        let h : suc (suc n) * (n + n * n) ≡ suc (suc n) * (n + 1) * n = grind arith in
        let k = g ∙ ap (λ m. suc (suc n) * (n + m)) hp ∙ h in
        omega (arith, left, right, f, k)

pub four_of : (n : ℕ) → choose n 4 * 6 ≡ choose n 2 * choose (n - 2) 2
four_of zero = refl
four_of (suc zero) = refl
four_of (suc (suc n)) =
    let e : suc (suc n) - 2 ≡ n = omega arith in
    six_times n ∙ ap (λ k. choose (suc (suc n)) 2 * choose k 2) (sym e)

-- a quotient as a product

pub quotient_is : (a b d g q : ℕ) → 0 < d → IsGcd a d g → q * d ≡ a * b → a / g * (b / (d / g)) ≡ q
quotient_is a b d g q pos h e =
    let some = positive_gcd a d g pos h in
    let a_is : g * (a / g) ≡ a = mul-div_cancel' g h.0 in
    let d_is : g * (d / g) ≡ d = mul-div_cancel' g h.1 in
    let same : g * (q * (d / g)) ≡ g * (a / g * b) = regroup (d / g) (a / g) a_is d_is in
    let less = cancel some same in
    let P : ℕ → Type 0 = λ v. d / g ∣ v in
    let divides = gauss (d / g) (a / g) b (coprime_swap (a / g) (d / g) (reduced a d g pos h)) (subst P less (dvd-mul_left (d / g) q)) in
    let b_is : d / g * (b / (d / g)) ≡ b = mul-div_cancel' (d / g) divides in
    cancel (positive_part g d pos h.1) (last (a / g) (d / g) (b / (d / g)) b_is less)
  where
    cancel : {k m n : ℕ} → 0 < k → k * m ≡ k * n → m ≡ n
    cancel {k = k} {m = m} {n = n} p e = sym (mul-div_cancel_left m p) ∙ ap (λ x. x / k) e ∙ mul-div_cancel_left n p

    regroup : (x y : ℕ) → g * y ≡ a → g * x ≡ d → g * (q * x) ≡ g * (y * b)
    regroup x y i j =
        let f : g * (q * x) ≡ q * (g * x) = grind arith in
        let k : g * (y * b) ≡ g * y * b = grind arith in
        f ∙ ap (λ m. q * m) j ∙ e ∙ ap (λ m. m * b) (sym i) ∙ sym k

    last : (x y z : ℕ) → y * z ≡ b → q * y ≡ x * b → y * (x * z) ≡ y * q
    last x y z i j =
        let f : y * (x * z) ≡ x * (y * z) = grind arith in
        let k : y * q ≡ q * y = grind arith in
        f ∙ ap (λ m. x * m) i ∙ sym j ∙ sym k

pub half_of : (n a b : ℕ) → a ≡ n → b ≡ a - 1 → a * b / 2 ≡ choose n 2
half_of n a b e f =
    let g : a * b ≡ choose n 2 * 2 = (λ m. e m * (f ∙ ap (λ k. k - 1) e) m) ∙ sym (two_of n) in
    omega (arith, g)

-- What the sum over the least common denominator has in common with that denominator.
use Rattle.std.proofs.Common.{◌≡◌, sym, subst, ◌∙◌, ℕ, ◌+◌, ◌-◌, ◌*◌, ◌/◌, ◌<◌, ℤ, pos, ◌+ℤ◌, ◌*ℤ◌, arith, mul_comm, ◌⊎◌, inl, inr}
use Rattle.std.proofs.lemmas.Int.{ints, unsigned_abs-mul}
use Rattle.std.proofs.lemmas.Nat.Gcd.{dvd_trans}
use Rattle.std.specs.Int.{IsGcd}
use Rattle.std.specs.Int.RustNames.{unsigned_abs}
use Rattle.std.proofs.Math.Nat.{dvd-add, dvd-sub, dvd-mul_right, dvd-mul_left, dvd-mul_left_of_dvd, dvd-mul_right_of_dvd, mul-div_cancel'}
use Prim.Native.Nat.{◌∣◌}
use Rattle.raml_num.specs.Divisors.{IsCoprime}
use Rattle.raml_num.proofs.Dividing.{gauss, coprime_swap, reduced}

-- the magnitudes of two numbers and their sum: one is the sum of the others
three : (u v : ℤ) → (unsigned_abs (u +ℤ v) ≡ unsigned_abs u + unsigned_abs v) ⊎ ((unsigned_abs u ≡ unsigned_abs (u +ℤ v) + unsigned_abs v) ⊎ (unsigned_abs v ≡ unsigned_abs (u +ℤ v) + unsigned_abs u))
three u v = grind (arith, ints)

-- what divides a sum and one part divides the other
other_part : (f : ℕ) (u v : ℤ) → f ∣ unsigned_abs (u +ℤ v) → f ∣ unsigned_abs v → f ∣ unsigned_abs u
other_part f u v p q = at (three u v)
  where
    at : (unsigned_abs (u +ℤ v) ≡ unsigned_abs u + unsigned_abs v) ⊎ ((unsigned_abs u ≡ unsigned_abs (u +ℤ v) + unsigned_abs v) ⊎ (unsigned_abs v ≡ unsigned_abs (u +ℤ v) + unsigned_abs u)) → f ∣ unsigned_abs u
    at (inl e) = let g : unsigned_abs (u +ℤ v) - unsigned_abs v ≡ unsigned_abs u = omega arith in subst (λ n. f ∣ n) g (dvd-sub f p q)
    at (inr (inl e)) = subst (λ n. f ∣ n) (sym e) (dvd-add f p q)
    at (inr (inr e)) = let g : unsigned_abs v - unsigned_abs (u +ℤ v) ≡ unsigned_abs u = omega arith in subst (λ n. f ∣ n) g (dvd-sub f q p)

-- a q + c p has no divisor in common with p, where a and p, and p and q, have none
nothing_with : (a c : ℤ) (p q : ℕ) → IsCoprime (unsigned_abs a) p → IsCoprime p q → IsCoprime (unsigned_abs (a *ℤ pos q +ℤ c *ℤ pos p)) p
nothing_with a c p q ap' pq = record {
  common = λ f i j.
      let cp : f ∣ unsigned_abs (c *ℤ pos p) = subst (λ n. f ∣ n) (sym (unsigned_abs-mul c (pos p))) (dvd-mul_left_of_dvd f j (unsigned_abs c)) in
      let aq : f ∣ unsigned_abs (a *ℤ pos q) = other_part f (a *ℤ pos q) (c *ℤ pos p) i cp in
      let qa : f ∣ q * unsigned_abs a = subst (λ n. f ∣ n) (unsigned_abs-mul a (pos q) ∙ mul_comm (unsigned_abs a) q) aq in
      let fq : IsCoprime f q = record { common = λ d k l. pq.common d (dvd_trans d k j) l } in
      ap'.common f (gauss f q (unsigned_abs a) fq qa) j;
}

-- what divides t and g p q divides g, where t has nothing in common with p and q
left_of : (t g p q e : ℕ) → IsCoprime t p → IsCoprime t q → e ∣ t → e ∣ p * (q * g) → e ∣ g
left_of t g p q e tp tq i j =
    let ep : IsCoprime e p = record { common = λ d k l. tp.common d (dvd_trans d k i) l } in
    let eq : IsCoprime e q = record { common = λ d k l. tq.common d (dvd_trans d k i) l } in
    gauss e q g eq (gauss e p (q * g) ep j)

swapped : (a c : ℤ) (p q : ℕ) → a *ℤ pos q +ℤ c *ℤ pos p ≡ c *ℤ pos p +ℤ a *ℤ pos q
swapped a c p q = omega (arith, ints)

by_shares : (a : ℤ) (b : ℕ) (c : ℤ) (d g p q k : ℕ) → g * p ≡ b → g * q ≡ d → IsCoprime (unsigned_abs a) b → IsCoprime (unsigned_abs c) d → IsCoprime p q
    → IsGcd (unsigned_abs (a *ℤ pos q +ℤ c *ℤ pos p)) g k → IsGcd (unsigned_abs (a *ℤ pos q +ℤ c *ℤ pos p)) (b * q) k
by_shares a b c d g p q k eb ed ab cd pq h =
    let pb : p ∣ b = subst (λ n. p ∣ n) eb (dvd-mul_left p g) in
    let qd : q ∣ d = subst (λ n. q ∣ n) ed (dvd-mul_left q g) in
    let gb : g ∣ b = subst (λ n. g ∣ n) eb (dvd-mul_right g p) in
    let cp : IsCoprime (unsigned_abs a) p = record { common = λ f i j. ab.common f i (dvd_trans f j pb) } in
    let cq : IsCoprime (unsigned_abs c) q = record { common = λ f i j. cd.common f i (dvd_trans f j qd) } in
    let tp = nothing_with a c p q cp pq in
    let tq : IsCoprime (unsigned_abs (a *ℤ pos q +ℤ c *ℤ pos p)) q = subst (λ z. IsCoprime (unsigned_abs z) q) (sym (swapped a c p q)) (nothing_with c a q p cq (coprime_swap p q pq)) in
    let e : b * q ≡ p * (q * g) = rw (← eb) (omega arith) in
    (h.0, dvd-mul_right_of_dvd k (dvd_trans k h.1 gb) q, λ f i j. h.2 f i (left_of (unsigned_abs (a *ℤ pos q +ℤ c *ℤ pos p)) g p q f tp tq i (subst (λ n. f ∣ n) e j)))

-- the sum's numerator has in common with the least common denominator only what it has with g
pub shared_gcd : (a : ℤ) (b : ℕ) (c : ℤ) (d g k : ℕ) → 0 < d → IsGcd b d g → IsCoprime (unsigned_abs a) b → IsCoprime (unsigned_abs c) d
    → IsGcd (unsigned_abs (a *ℤ pos (d / g) +ℤ c *ℤ pos (b / g))) g k → IsGcd (unsigned_abs (a *ℤ pos (d / g) +ℤ c *ℤ pos (b / g))) (b * (d / g)) k
shared_gcd a b c d g k h i ab cd = by_shares a b c d g (b / g) (d / g) k (mul-div_cancel' g i.0) (mul-div_cancel' g i.1) ab cd (reduced b d g h i)

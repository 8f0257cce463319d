-- What whole numbers of 63 bits over denominators tell of the fractions that they make.
use Rattle.std.proofs.Common.{◌≡◌, sym, ap, ◌∙◌, ◌⊎◌, inl, inr, ℕ, suc, ◌*◌, ◌/◌, ◌<◌, ◌≤◌, ◌^◌, ℤ, pos, neg_ℤ, ◌+ℤ◌, ◌-ℤ◌, ◌*ℤ◌, unsigned_abs, arith}
use Rattle.std.proofs.lemmas.Int.{ints, unsigned_abs-mul}
use Rattle.std.proofs.lemmas.Nat.{mul-le, mul-lt}
use Rattle.std.proofs.lemmas.Nat.Gcd.{le_of_dvd, dvd_trans}
use Prim.Native.Nat.{◌∣◌}
use Rattle.std.proofs.Math.Nat.{mul-pos, mul-div_cancel', dvd-mul_right}
use Rattle.raml_num.specs.Divisors.{IsLcm}
use Rattle.raml_num.proofs.Dividing.{lowest_divides}
use Rattle.raml_num.proofs.Differences.{diffs, diff-pos, is_diff, diff_same}
use Rattle.raml_num.proofs.Signed.{cancelled}
use Rattle.frac128.specs.declared.Frac.{Frac}
use Rattle.frac128.specs.Values.{IsOver, IsProduct, IsQuotient, IsDifference, DifferenceFits}
use Rattle.simplex_rows.specs.Entries.{IsLess}
use Rattle.simplex_rows.specs.Over.{over}
use Rattle.simplex_rows.proofs.Overs.{over_is}

not_zero : (n : ℕ) → 0 < n → pos n ≡ pos 0 → ⊥
not_zero n h e = omega (arith, ints)

-- a quotient: X d = a x, Y d = f y and Q f = a q give X (q y) = (Q Y) x
quotient_left : (X : ℤ) (d f q y : ℕ) → pos (d * f) *ℤ (X *ℤ pos (q * y)) ≡ (X *ℤ pos d) *ℤ pos (f * (q * y))
quotient_left X d f q y = rw (is_diff X) (simp (diffs, diff-pos) (diff_same _ _ _ _ (omega arith)))

quotient_mid : (a : ℤ) (x f q y : ℕ) → (a *ℤ pos x) *ℤ pos (f * (q * y)) ≡ ((a *ℤ pos q) *ℤ pos (f * y)) *ℤ pos x
quotient_mid a x f q y = rw (is_diff a) (simp (diffs, diff-pos) (diff_same _ _ _ _ (omega arith)))

quotient_turn : (Q : ℤ) (x f y : ℕ) → ((Q *ℤ pos f) *ℤ pos (f * y)) *ℤ pos x ≡ ((Q *ℤ (pos f *ℤ pos y)) *ℤ pos f) *ℤ pos x
quotient_turn Q x f y = rw (is_diff Q) (simp (diffs, diff-pos) (diff_same _ _ _ _ (omega arith)))

quotient_right : (Q Y : ℤ) (x d f : ℕ) → ((Q *ℤ (Y *ℤ pos d)) *ℤ pos f) *ℤ pos x ≡ pos (d * f) *ℤ ((Q *ℤ Y) *ℤ pos x)
quotient_right Q Y x d f = rw (is_diff Q, is_diff Y) (simp (diffs, diff-pos) (diff_same _ _ _ _ (omega arith)))

pub quotient_is : (a : ℤ) (d f : ℕ) (x y q : Frac) → 0 < d → 0 < f → IsOver a d x → IsOver (pos f) d y → IsOver a f q → IsQuotient x y q
quotient_is a d f x y q dpos fpos i j k =
    cancelled (pos (d * f)) _ _ (not_zero (d * f) (mul-pos dpos fpos))
    (quotient_left x.num d f q.den y.den
    ∙ ap (λ (v : ℤ). v *ℤ pos (f * (q.den * y.den))) i
    ∙ quotient_mid a x.den f q.den y.den
    ∙ ap (λ (v : ℤ). (v *ℤ pos (f * y.den)) *ℤ pos x.den) (sym k)
    ∙ quotient_turn q.num x.den f y.den
    ∙ ap (λ (v : ℤ). ((q.num *ℤ v) *ℤ pos f) *ℤ pos x.den) (sym j)
    ∙ quotient_right q.num y.num x.den d f)

-- a product: T d = f t, Q e = b q and P (d e) = (f b) p give P (t q) = (T Q) p
product_left : (P : ℤ) (d e t q : ℕ) → pos (d * e) *ℤ (P *ℤ pos (t * q)) ≡ (P *ℤ pos (d * e)) *ℤ pos (t * q)
product_left P d e t q = rw (is_diff P) (simp (diffs, diff-pos) (diff_same _ _ _ _ (omega arith)))

product_mid : (f b : ℤ) (p t q : ℕ) → ((f *ℤ b) *ℤ pos p) *ℤ pos (t * q) ≡ ((f *ℤ pos t) *ℤ (b *ℤ pos q)) *ℤ pos p
product_mid f b p t q = rw (is_diff f, is_diff b) (simp (diffs, diff-pos) (diff_same _ _ _ _ (omega arith)))

product_right : (T Q : ℤ) (d e p : ℕ) → ((T *ℤ pos d) *ℤ (Q *ℤ pos e)) *ℤ pos p ≡ pos (d * e) *ℤ ((T *ℤ Q) *ℤ pos p)
product_right T Q d e p = rw (is_diff T, is_diff Q) (simp (diffs, diff-pos) (diff_same _ _ _ _ (omega arith)))

product_is : (f b : ℤ) (d e : ℕ) (t q p : Frac) → 0 < d → 0 < e → IsOver f d t → IsOver b e q → IsOver (f *ℤ b) (d * e) p → IsProduct t q p
product_is f b d e t q p dpos epos i j k =
    cancelled (pos (d * e)) _ _ (not_zero (d * e) (mul-pos dpos epos))
    (product_left p.num d e t.den q.den
    ∙ ap (λ (v : ℤ). v *ℤ pos (t.den * q.den)) k
    ∙ product_mid f b p.den t.den q.den
    ∙ ap (λ (v : ℤ). (v *ℤ (b *ℤ pos q.den)) *ℤ pos p.den) (sym i)
    ∙ ap (λ (v : ℤ). ((t.num *ℤ pos d) *ℤ v) *ℤ pos p.den) (sym j)
    ∙ product_right t.num q.num d e p.den)

-- a difference: X d = a x, P (d (k g)) = ((h g) b) p and R (k d) = (k a - h b) r give R (x p) = (X p - P x) r
difference_left : (R : ℤ) (d g k x p : ℕ) → pos (k * d * (k * g)) *ℤ (R *ℤ pos (x * p)) ≡ (R *ℤ pos (k * d)) *ℤ pos (k * g * (x * p))
difference_left R d g k x p = rw (is_diff R) (simp (diffs, diff-pos) (diff_same _ _ _ _ (omega arith)))

difference_mid : (a h b : ℤ) (g k x p r : ℕ) → ((pos k *ℤ a -ℤ h *ℤ b) *ℤ pos r) *ℤ pos (k * g * (x * p)) ≡ ((a *ℤ pos x) *ℤ pos (k * g * p) -ℤ (((h *ℤ pos g) *ℤ b) *ℤ pos p) *ℤ pos x) *ℤ pos (k * r)
difference_mid a h b g k x p r = rw (is_diff a, is_diff h, is_diff b) (simp (diffs, diff-pos) (diff_same _ _ _ _ (omega arith)))

difference_right : (X P : ℤ) (d g k x p r : ℕ) → ((X *ℤ pos d) *ℤ pos (k * g * p) -ℤ (P *ℤ pos (d * (k * g))) *ℤ pos x) *ℤ pos (k * r) ≡ pos (k * d * (k * g)) *ℤ ((X *ℤ pos p -ℤ P *ℤ pos x) *ℤ pos r)
difference_right X P d g k x p r = rw (is_diff X, is_diff P) (simp (diffs, diff-pos) (diff_same _ _ _ _ (omega arith)))

difference_is : (a h b : ℤ) (d g k : ℕ) (x p r : Frac) → 0 < d → 0 < g → 0 < k → IsOver a d x → IsOver ((h *ℤ pos g) *ℤ b) (d * (k * g)) p → IsOver (pos k *ℤ a -ℤ h *ℤ b) (k * d) r → IsDifference x p r
difference_is a h b d g k x p r dpos gpos kpos i j l =
    cancelled (pos (k * d * (k * g))) _ _ (not_zero (k * d * (k * g)) (mul-pos (mul-pos kpos dpos) (mul-pos kpos gpos)))
    (difference_left r.num d g k x.den p.den
    ∙ ap (λ (v : ℤ). v *ℤ pos (k * g * (x.den * p.den))) l
    ∙ difference_mid a h b g k x.den p.den r.den
    ∙ ap (λ (v : ℤ). (v *ℤ pos (k * g * p.den) -ℤ (((h *ℤ pos g) *ℤ b) *ℤ pos p.den) *ℤ pos x.den) *ℤ pos (k * r.den)) (sym i)
    ∙ ap (λ (v : ℤ). ((x.num *ℤ pos d) *ℤ pos (k * g * p.den) -ℤ v *ℤ pos x.den) *ℤ pos (k * r.den)) (sym j)
    ∙ difference_right x.num p.num d g k x.den p.den r.den)

-- the sizes of both sides
sizes : (n : ℤ) (d : ℕ) (r : Frac) → IsOver n d r → unsigned_abs r.num * d ≡ unsigned_abs n * r.den
sizes n d r e = sym (unsigned_abs-mul r.num (pos d)) ∙ ap unsigned_abs e ∙ unsigned_abs-mul n (pos r.den)

-- a positive factor of both sides of an inequality goes
less_or_not : (m n : ℕ) → (m ≤ n) ⊎ (n < m)
less_or_not m n = grind arith

le_cancel : (k u v : ℕ) → 0 < k → k * u ≤ k * v → u ≤ v
le_cancel k u v p h = elim (less_or_not u v) [
  | inl l ↦ l
  | inr g ↦ let more : k * suc v ≤ k * u = mul-le k (suc v) k u (omega arith) g in absurd (omega arith)
]

-- the part of n/d over m, a common multiple that is not above M, is not above A, where n M = A d
share_within : (n d A M m : ℕ) → 0 < d → n * M ≡ A * d → d ∣ m → m ≤ M → n * (m / d) ≤ A
share_within n d A M m p e divides h =
    let whole : d * (m / d) ≡ m = mul-div_cancel' d divides in
    let turned : d * (n * (m / d)) ≡ n * (d * (m / d)) = omega arith in
    let below : n * m ≤ n * M = mul-le n m n M (omega arith) h in
    let same : d * (n * (m / d)) ≡ n * m = turned ∙ ap (λ (v : ℕ). n * v) whole in
    le_cancel d (n * (m / d)) A p (omega arith)

two_within : (u v : ℤ) → unsigned_abs u < 2 ^ 126 → unsigned_abs v < 2 ^ 126 → unsigned_abs (u +ℤ v) < 2 ^ 127
two_within u v h k = omega (arith, ints)

module _ (a n : ℤ) (d e : ℕ) (x p : Frac) (dpos : 0 < d) (epos : 0 < e) (i : IsOver a d x) (j : IsOver n (d * e) p)
    (first : unsigned_abs a * e < 2 ^ 126) (second : unsigned_abs n < 2 ^ 126) (third : d * e < 2 ^ 126) (m : ℕ) (lcm : IsLcm x.den p.den m) where
  divides_first : x.den ∣ d * e
  divides_first = dvd_trans x.den (lowest_divides (unsigned_abs x.num) x.den (unsigned_abs a) d x.lowest.coprime (sym (sizes a d x i))).1 (dvd-mul_right d e)

  divides_second : p.den ∣ d * e
  divides_second = (lowest_divides (unsigned_abs p.num) p.den (unsigned_abs n) (d * e) p.lowest.coprime (sym (sizes n (d * e) p j))).1

  below : m ≤ d * e
  below = le_of_dvd (mul-pos dpos epos) (lcm.2 (d * e) divides_first divides_second)

  left_within : unsigned_abs (x.num *ℤ pos (m / x.den)) < 2 ^ 126
  left_within =
      let s : unsigned_abs x.num * (d * e) ≡ (unsigned_abs a * e) * x.den = (let t = sizes a d x i in let r : unsigned_abs x.num * d * e ≡ unsigned_abs a * x.den * e = ap (λ (v : ℕ). v * e) t in omega arith) in
      let w : unsigned_abs x.num * (m / x.den) ≤ unsigned_abs a * e = share_within (unsigned_abs x.num) x.den (unsigned_abs a * e) (d * e) m x.lowest.positive s lcm.0 below in
      rw (unsigned_abs-mul x.num (pos (m / x.den))) (omega arith)

  right_within : unsigned_abs (neg_ℤ p.num *ℤ pos (m / p.den)) < 2 ^ 126
  right_within =
      let w : unsigned_abs p.num * (m / p.den) ≤ unsigned_abs n = share_within (unsigned_abs p.num) p.den (unsigned_abs n) (d * e) m p.lowest.positive (sizes n (d * e) p j) lcm.1 below in
      let z : unsigned_abs (neg_ℤ p.num) ≡ unsigned_abs p.num = omega (arith, ints) in
      rw (unsigned_abs-mul (neg_ℤ p.num) (pos (m / p.den)), z) (omega arith)

  difference_fits : DifferenceFits x p m
  difference_fits = record {
    common = let b = below in omega arith;
    left = let l = left_within in omega arith;
    right = let r = right_within in omega arith;
    both = two_within (x.num *ℤ pos (m / x.den)) (neg_ℤ p.num *ℤ pos (m / p.den)) left_within right_within;
  }

-- where the factors of the row and of the lead are k and h, and all are short, no number leaves the range: with
-- x = a/d, t = f/d, q = b/e, f = h g and e = k g, the fraction (k a - h b)/(k d) is x less t times q
pub less_is : (a f b h : ℤ) (d e g k : ℕ) (x t q r : Frac) → 0 < d → 0 < g → 0 < k → f ≡ h *ℤ pos g → e ≡ k * g
    → unsigned_abs a < 2 ^ 63 → unsigned_abs f < 2 ^ 63 → unsigned_abs b < 2 ^ 63 → d < 2 ^ 63 → e < 2 ^ 63
    → IsOver a d x → IsOver f d t → IsOver b e q → IsOver (pos k *ℤ a -ℤ h *ℤ b) (k * d) r → IsLess x t q r
less_is a f b h d e g k x t q r dpos gpos kpos fis eis asmall fsmall bsmall dsmall esmall i j l m =
    let epos : 0 < e = rw eis (mul-pos kpos gpos) in
    let sized : unsigned_abs (f *ℤ b) < 2 ^ 126 = (let w : unsigned_abs f * unsigned_abs b < 2 ^ 63 * 2 ^ 63 = mul-lt (unsigned_abs f) (unsigned_abs b) (2 ^ 63) (2 ^ 63) fsmall bsmall in rw (unsigned_abs-mul f b) (omega arith)) in
    let wide : d * e < 2 ^ 126 = (let w : d * e < 2 ^ 63 * 2 ^ 63 = mul-lt d e (2 ^ 63) (2 ^ 63) dsmall esmall in omega arith) in
    let first : unsigned_abs a * e < 2 ^ 126 = (let w : unsigned_abs a * e < 2 ^ 63 * 2 ^ 63 = mul-lt (unsigned_abs a) e (2 ^ 63) (2 ^ 63) asmall esmall in omega arith) in
    let p : Frac = over (f *ℤ b) (pos (d * e)) in
    let p_is : IsOver (f *ℤ b) (d * e) p = over_is (f *ℤ b) (pos (d * e)) (let z : 0 < d * e = mul-pos dpos epos in omega (arith, ints)) (omega arith) (omega arith) in
    record {
      product = p;
      is_product = product_is f b d e t q p dpos epos j l p_is;
      fits = λ c lcm. difference_fits a (f *ℤ b) d e x p dpos epos i p_is first sized wide c lcm;
      is_difference = difference_is a h b d g k x p r dpos gpos kpos i (rw (← fis, ← eis) p_is) m;
    }

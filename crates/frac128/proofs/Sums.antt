-- Sums over the least common denominator.
use Rattle.std.proofs.Common.{◌≡◌, ap, ◌∙◌, ℕ, ◌*◌, ◌/◌, ◌<◌, ℤ, pos, ◌+ℤ◌, ◌*ℤ◌, ◌-ℤ◌, neg_ℤ, arith, Option, Some, None, IsSome, IfSome, ◌↔◌}
use Rattle.std.proofs.lemmas.Int.{ints, unsigned_abs-mul}
use Rattle.std.proofs.lemmas.Nat.Gcd.{dvd_antisymm, dvd_refl}
use Rattle.std.specs.Int.{IsGcd}
use Rattle.std.proofs.Math.Nat.{mul-div_cancel', mul-div_cancel, mul-div_cancel_left, mul-pos}
use Rattle.raml_num.specs.Divisors.{IsLcm}
use Rattle.raml_num.proofs.Differences.{diffs, diff-pos, is_diff, diff_same}
use Rattle.raml_num.proofs.Dividing.{positive_part}
use Rattle.raml_num.proofs.Multiples.{is_lcm}
use Rattle.frac128.specs.Lowest.{JoinFits}
use Rattle.frac128.specs.declared.Frac.{Frac}
use Rattle.frac128.specs.Values.{PartsFit, Fits, SumFits, IsSum, IsDifference}
use Rattle.frac128.proofs.Signs.{turned}

-- the sum over b (d / g) is a/b + c/d
left_turn : (g x y : ℕ) (p : ℤ) → p *ℤ pos ((g * x) * (g * y)) ≡ pos g *ℤ (p *ℤ pos ((g * x) * y))
left_turn g x y p = rw (is_diff p) (simp (diffs, diff-pos) (diff_same _ _ _ _ (omega arith)))

right_turn : (g x y : ℕ) (a c q : ℤ) → pos g *ℤ ((a *ℤ pos y +ℤ c *ℤ pos x) *ℤ q) ≡ (a *ℤ pos (g * y) +ℤ c *ℤ pos (g * x)) *ℤ q
right_turn g x y a c q = rw (is_diff a, is_diff c, is_diff q) (simp (diffs, diff-pos) (diff_same _ _ _ _ (omega arith)))

sum_turn : (g x y b d : ℕ) → g * x ≡ b → g * y ≡ d → (a c p q : ℤ) → p *ℤ pos (b * y) ≡ (a *ℤ pos y +ℤ c *ℤ pos x) *ℤ q → p *ℤ pos (b * d) ≡ (a *ℤ pos d +ℤ c *ℤ pos b) *ℤ q
sum_turn g x y b d e f a c p q h =
    let k : p *ℤ pos ((g * x) * y) ≡ (a *ℤ pos y +ℤ c *ℤ pos x) *ℤ q = rw e h in
    rw (← e, ← f) (left_turn g x y p ∙ ap (λ (v : ℤ). pos g *ℤ v) k ∙ right_turn g x y a c q)

pub is_sum : (a : ℤ) (b : ℕ) (c : ℤ) (d g : ℕ) (p : ℤ) (q : ℕ) → IsGcd b d g → p *ℤ pos (b * (d / g)) ≡ (a *ℤ pos (d / g) +ℤ c *ℤ pos (b / g)) *ℤ pos q
    → p *ℤ pos (b * d) ≡ (a *ℤ pos d +ℤ c *ℤ pos b) *ℤ pos q
is_sum a b c d g p q h e = sum_turn g (b / g) (d / g) b d (mul-div_cancel' g h.0) (mul-div_cancel' g h.1) a c p (pos q) e

pub same_sum : (a : ℤ) (b : ℕ) (c p : ℤ) (q : ℕ) → p *ℤ pos b ≡ (a +ℤ c) *ℤ pos q → p *ℤ pos (b * b) ≡ (a *ℤ pos b +ℤ c *ℤ pos b) *ℤ pos q
same_sum a b c p q e = one_turn p b ∙ ap (λ (v : ℤ). pos b *ℤ v) e ∙ other_turn a b c (pos q)
  where
    one_turn : (p : ℤ) (b : ℕ) → p *ℤ pos (b * b) ≡ pos b *ℤ (p *ℤ pos b)
    one_turn p b = rw (is_diff p) (simp (diffs, diff-pos) (diff_same _ _ _ _ (omega arith)))

    other_turn : (a : ℤ) (b : ℕ) (c q : ℤ) → pos b *ℤ ((a +ℤ c) *ℤ q) ≡ (a *ℤ pos b +ℤ c *ℤ pos b) *ℤ q
    other_turn a b c q = rw (is_diff a, is_diff c, is_diff q) (simp (diffs, diff-pos) (diff_same _ _ _ _ (omega arith)))

pub bottom_positive : (b d g : ℕ) → 0 < b → 0 < d → IsGcd b d g → 0 < b * (d / g)
bottom_positive b d g h k i = mul-pos h (positive_part g d k i.1)

same_lcm : (b d m n : ℕ) → IsLcm b d m → IsLcm b d n → m ≡ n
same_lcm b d m n p q = dvd_antisymm (p.2 n q.0 q.1) (q.2 m p.0 p.1)

-- the least common multiple m of b and d, by their greatest common divisor
pub record IsShared (b d g m : ℕ) : Type 0 where
  pub whole : m ≡ b * (d / g)
  pub first : m / b ≡ d / g
  pub second : m / d ≡ b / g

pub shared : (b d g m : ℕ) → 0 < b → 0 < d → IsGcd b d g → IsLcm b d m → IsShared b d g m
shared b d g m h k i l =
    let e : m ≡ b / g * d = same_lcm b d m _ l (is_lcm b d g k i) in
    let f : b / g * d ≡ b * (d / g) = turned b d g i in
    let w : m ≡ b * (d / g) = e ∙ f in
    record {
      whole = w;
      first = ap (λ (v : ℕ). v / b) w ∙ mul-div_cancel_left (d / g) h;
      second = ap (λ (v : ℕ). v / d) e ∙ mul-div_cancel (b / g) k;
    }

-- what is in the range over b (d / g) is so over the least common denominator, and the other way round
pub fits_over : (a : ℤ) (b : ℕ) (c : ℤ) (d g m : ℕ) → IsShared b d g m → JoinFits a b c d g → PartsFit a b c d m
fits_over a b c d g m s f = record {
  common = rw s.whole f.0;
  left = rw (s.first, unsigned_abs-mul a (pos (d / g))) f.1;
  right = rw (s.second, unsigned_abs-mul c (pos (b / g))) f.2;
  both = rw (s.first, s.second) f.3;
}

pub fits_back : (a : ℤ) (b : ℕ) (c : ℤ) (d g m : ℕ) → IsShared b d g m → PartsFit a b c d m → JoinFits a b c d g
fits_back a b c d g m s f =
    (rw s.whole at f.common, rw (s.first, unsigned_abs-mul a (pos (d / g))) at f.left, rw (s.second, unsigned_abs-mul c (pos (b / g))) at f.right, rw (s.first, s.second) at f.both)

one_over : (b : ℕ) → 0 < b → b / b ≡ 1
one_over b h = let e : b ≡ b * 1 = omega arith in ap (λ (v : ℕ). v / b) e ∙ mul-div_cancel_left 1 h

times_one : (a : ℤ) → a *ℤ pos 1 ≡ a
times_one a = omega (arith, ints)

-- over one denominator only the sum can leave the range
pub same_fits : (x y : Frac) (m : ℕ) (o : Option Frac) → x.den ≡ y.den → IsLcm x.den y.den m → (IsSome o ↔ Fits (x.num +ℤ y.num)) → (IsSome o ↔ SumFits x y m)
same_fits x y m o e l f =
    let n : m ≡ x.den = same_lcm x.den y.den m x.den l (rw (← e) (dvd_refl x.den, dvd_refl x.den, λ n p q. p)) in
    let first : m / x.den ≡ 1 = ap (λ (v : ℕ). v / x.den) n ∙ one_over x.den x.lowest.positive in
    let second : m / y.den ≡ 1 = ap (λ (v : ℕ). v / y.den) (n ∙ e) ∙ one_over y.den y.lowest.positive in (
      λ h. record {
        common = rw n x.lowest.fits;
        left = rw (first, times_one x.num) x.lowest.small;
        right = rw (second, times_one y.num) y.lowest.small;
        both = rw (first, second, times_one x.num, times_one y.num) (f.0 h);
      },
      λ s. f.1 (rw (first, second, times_one x.num, times_one y.num) at s.both),
    )

-- a sum with the negative is a difference
minus : (a c : ℤ) (b d : ℕ) → a *ℤ pos d +ℤ neg_ℤ c *ℤ pos b ≡ a *ℤ pos d -ℤ c *ℤ pos b
minus a c b d = rw (is_diff a, is_diff c) (simp (diffs, diff-pos) (diff_same _ _ _ _ (omega arith)))

pub is_difference : (x y z : Frac) (o : Option Frac) → z.num ≡ neg_ℤ y.num → z.den ≡ y.den → IfSome o (IsSum x z) → IfSome o (IsDifference x y)
is_difference x y z None e f h = h
is_difference x y z (Some r) e f h = rw (e, f, minus x.num y.num x.den y.den) at h

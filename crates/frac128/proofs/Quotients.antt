-- Quotients are products with the reciprocal.
use Rattle.std.proofs.Common.{◌≡◌, sym, ap, ◌∙◌, ℕ, ◌*◌, ◌<◌, ℤ, pos, ◌*ℤ◌, arith, Option, Some, None}
use Rattle.std.proofs.lemmas.Int.{ints}
use Rattle.raml_num.proofs.Differences.{diffs, diff-pos, is_diff, diff_same}
use Rattle.raml_num.proofs.Signed.{cancelled}
use Rattle.frac128.specs.declared.Frac.{Frac}
use Rattle.frac128.specs.Values.{IsProduct, IsQuotient, IsReciprocal, Tells}

-- both sides are x.num times y.den times z.den times r.den
spread : (x : ℤ) (r y z : ℕ) → pos z *ℤ (x *ℤ pos (r * y)) ≡ (x *ℤ pos r) *ℤ pos (y * z)
spread x r y z = rw (is_diff x) (simp (diffs, diff-pos) (diff_same _ _ _ _ (omega arith)))

swap : (x y z : ℤ) (r : ℕ) → (x *ℤ pos r) *ℤ (z *ℤ y) ≡ ((x *ℤ z) *ℤ pos r) *ℤ y
swap x y z r = rw (is_diff x, is_diff y, is_diff z) (simp (diffs, diff-pos) (diff_same _ _ _ _ (omega arith)))

gather : (r y : ℤ) (x z : ℕ) → (r *ℤ pos (x * z)) *ℤ y ≡ pos z *ℤ ((r *ℤ y) *ℤ pos x)
gather r y x z = rw (is_diff r, is_diff y) (simp (diffs, diff-pos) (diff_same _ _ _ _ (omega arith)))

turn : (a y : ℤ) → a *ℤ y ≡ y *ℤ a
turn a y = rw (is_diff a, is_diff y) (simp diffs (diff_same _ _ _ _ (omega arith)))

not_zero : (n : ℕ) → 0 < n → pos n ≡ pos 0 → ⊥
not_zero n h e = omega (arith, ints)

to_quotient : (x y z r : Frac) → IsReciprocal y z → IsProduct x z r → IsQuotient x y r
to_quotient x y z r h e =
    cancelled (pos z.den) _ _ (not_zero z.den z.lowest.positive)
    (spread x.num r.den y.den z.den ∙ ap (λ (v : ℤ). (x.num *ℤ pos r.den) *ℤ v) (sym h) ∙ swap x.num y.num z.num r.den ∙ ap (λ (v : ℤ). v *ℤ y.num) (sym e) ∙ gather r.num y.num x.den z.den)

from_quotient : (x y z r : Frac) → (y.num ≡ pos 0 → ⊥) → IsReciprocal y z → IsQuotient x y r → IsProduct x z r
from_quotient x y z r n h e =
    cancelled y.num _ _ n
    (turn y.num (r.num *ℤ pos (x.den * z.den)) ∙ gather r.num y.num x.den z.den ∙ ap (λ (v : ℤ). pos z.den *ℤ v) (sym e) ∙ spread x.num r.den y.den z.den
    ∙ ap (λ (v : ℤ). (x.num *ℤ pos r.den) *ℤ v) (sym h) ∙ swap x.num y.num z.num r.den ∙ turn ((x.num *ℤ z.num) *ℤ pos r.den) y.num)

-- what multiplying by the reciprocal tells
pub told : (x y z : Frac) (o : Option Frac) → (y.num ≡ pos 0 → ⊥) → IsReciprocal y z → Tells (IsProduct x z) o → Tells (IsQuotient x y) o
told x y z None n h none = λ r e. none r (from_quotient x y z r n h e)
told x y z (Some r) n h e = to_quotient x y z r h e

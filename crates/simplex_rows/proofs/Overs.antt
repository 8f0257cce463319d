-- The fraction that two numbers make has their value.
use Rattle.std.proofs.Common.{◌≡◌, refl, ap, subst, ◌∙◌, ℕ, suc, ◌*◌, ◌/◌, ◌<◌, ◌^◌, ℤ, pos, neg_ℤ, ◌*ℤ◌, ◌<ℤ◌, unsigned_abs, Bool, true, false, arith}
use Rattle.std.proofs.lemmas.Int.{ints}
use Rattle.std.proofs.lemmas.Bool.Decides.{nat_tests}
use Rattle.std.proofs.Math.Nat.{mul-div_cancel'}
use Rattle.std.specs.Int.{IsGcd}
use lib.IntN.{negsuc}
use Rattle.raml_num.proofs.Differences.{diffs, diff-pos, is_diff, diff_same}
use Rattle.frac128.specs.Values.{numerator, denominator}
use Rattle.simplex_rows.specs.Over.{over, over_where, are_parts, part, common}

positive_part : (q g n : ℕ) → g * q ≡ n → pos q *ℤ pos g ≡ pos n
positive_part q g n e = rw (← e) (omega (arith, ints))

negated : (a b : ℤ) → neg_ℤ a *ℤ b ≡ neg_ℤ (a *ℤ b)
negated a b = rw (is_diff a, is_diff b) (simp diffs (diff_same _ _ _ _ (omega arith)))

negative_part : (q g n : ℕ) → g * q ≡ n → neg_ℤ (pos q) *ℤ pos g ≡ neg_ℤ (pos n)
negative_part q g n e = negated (pos q) (pos g) ∙ ap neg_ℤ (positive_part q g n e)

-- a part times the divisor
part_whole : (n : ℤ) (g : ℕ) → g * (unsigned_abs n / g) ≡ unsigned_abs n → part n g *ℤ pos g ≡ n
part_whole (pos m) g e = positive_part (m / g) g m e
part_whole (negsuc m) g e = negative_part (suc m / g) g (suc m) e

spread : (p : ℤ) (g e : ℕ) → p *ℤ pos (g * e) ≡ (p *ℤ pos g) *ℤ pos e
spread p g e = rw (is_diff p) (simp (diffs, diff-pos) (diff_same _ _ _ _ (omega arith)))

pub crossed : (p n : ℤ) (d e g : ℕ) → p *ℤ pos g ≡ n → g * e ≡ d → p *ℤ pos d ≡ n *ℤ pos e
crossed p n d e g h k = rw (← h, ← k) (spread p g e)

over_where_is : (n : ℤ) (d : ℕ) (b : Bool) (e : are_parts (unsigned_abs n) d ≡ b) → b ≡ true → numerator (over_where n d b e) *ℤ pos d ≡ n *ℤ pos (denominator (over_where n d b e))
over_where_is n d true e t =
    let g = common (unsigned_abs n) d in
    let divides : IsGcd (unsigned_abs n) d g.0 = g.1 in
    crossed (part n g.0) n d (d / g.0) g.0 (part_whole n g.0 (mul-div_cancel' g.0 divides.0)) (mul-div_cancel' g.0 divides.1)
over_where_is n d false e t = absurd (cc)

-- n over d is n over d
pub over_is : (n d : ℤ) → pos 0 <ℤ d → unsigned_abs n < 2 ^ 127 → unsigned_abs d < 2 ^ 127 → numerator (over n d) *ℤ d ≡ n *ℤ pos (denominator (over n d))
unfolding over
over_is n d p h k =
    let e : pos (unsigned_abs d) ≡ d = omega (arith, ints) in
    let t : are_parts (unsigned_abs n) (unsigned_abs d) ≡ true = (let q : 0 < unsigned_abs d = omega (arith, ints) in grind (arith, nat_tests)) in
    subst (λ (z : ℤ). numerator (over n d) *ℤ z ≡ n *ℤ pos (denominator (over n d))) e (over_where_is n (unsigned_abs d) (are_parts (unsigned_abs n) (unsigned_abs d)) refl t)

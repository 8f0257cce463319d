-- One fraction less a product.
use Rattle.std.proofs.Common.{◌≡◌, refl, sym, ap, subst, ◌∙◌, ℕ, ◌*◌, ◌/◌, ℤ, pos, neg_ℤ, ◌+ℤ◌, ◌-ℤ◌, ◌*ℤ◌, arith, Option, Some, None, IsSome, IfSome, ◌↔◌, MatchOption, false, true, inr}
use Rattle.std.proofs.lemmas.Int.{ints}
use Rattle.std.proofs.lemmas.Nat.Gcd.{dvd_antisymm, dvd_refl}
use Rattle.std.proofs.Math.Nat.{one-dvd, mul-div_cancel_left}
use Rattle.raml_num.specs.Divisors.{IsLcm}
use Rattle.raml_num.proofs.Differences.{diffs, diff-pos, is_diff, diff_same}
use Rattle.frac128.specs.declared.Frac.{Frac}
use Rattle.frac128.specs.Values.{Fits, IsProduct, IsDifference, DifferenceFits}
use Rattle.frac128.specs.Nought.{nought}
use Rattle.simplex_rows.specs.Entries.{IsLess, LessLeaves}

-- what the difference tells
pub differs : (x f q p : Frac) (o : Option Frac) → IsProduct f q p → ((m : ℕ) → IsLcm x.den p.den m → (IsSome o ↔ DifferenceFits x p m)) → IfSome o (IsDifference x p) → MatchOption o (LessLeaves x f q) (IsLess x f q)
differs x f q p None e fits value = inr (p, e, λ m l d. absurd (let n : false ≡ true = (fits m l).1 d in (cc)))
differs x f q p (Some r) e fits value = record { product = p; is_product = e; fits = λ m l. (fits m l).0 refl; is_difference = value }

-- less a product with 0
no_product : (a b c : ℤ) (d : ℕ) → b ≡ pos 0 → pos 0 *ℤ c ≡ (a *ℤ b) *ℤ pos d
no_product a b c d e =
    let z : a *ℤ b ≡ pos 0 = rw e (omega (arith, ints)) in
    rw z (omega (arith, ints))

less_zero : (n : ℤ) (d : ℕ) → n *ℤ pos (d * 1) ≡ (n *ℤ pos 1 -ℤ pos 0 *ℤ pos d) *ℤ pos d
less_zero n d = rw (is_diff n) (simp (diffs, diff-pos) (diff_same _ _ _ _ (omega arith)))

pub times_one : (a : ℤ) → a *ℤ pos 1 ≡ a
times_one a = omega (arith, ints)

plus_none : (a : ℤ) (n : ℕ) → a +ℤ neg_ℤ (pos 0) *ℤ pos n ≡ a
plus_none a n = omega (arith, ints)

none_fits : (n : ℕ) → Fits (neg_ℤ (pos 0) *ℤ pos n)
none_fits n = let e : neg_ℤ (pos 0) *ℤ pos n ≡ pos 0 = omega (arith, ints) in subst Fits (sym e) (omega arith)

zero_fits : (x : Frac) (m : ℕ) → IsLcm x.den 1 m → DifferenceFits x nought m
zero_fits x m l =
    let n : m ≡ x.den = dvd_antisymm (l.2 x.den (dvd_refl x.den) (one-dvd x.den)) l.0 in
    let first : m / x.den ≡ 1 = ap (λ (v : ℕ). v / x.den) (n ∙ (let e : x.den ≡ x.den * 1 = omega arith in e)) ∙ mul-div_cancel_left 1 x.lowest.positive in
    record {
      common = rw n x.lowest.fits;
      left = rw (first, times_one x.num) x.lowest.small;
      right = none_fits (m / 1);
      both = rw (first, times_one x.num, plus_none x.num (m / 1)) x.lowest.small;
    }

pub less_nothing : (x f q : Frac) → q.num ≡ pos 0 → IsLess x f q x
less_nothing x f q e = record {
  product = nought;
  is_product = no_product f.num q.num (pos (f.den * q.den)) 1 e;
  fits = λ m l. zero_fits x m l;
  is_difference = less_zero x.num x.den;
}

none_times : (a b : ℤ) (c : ℤ) (d : ℕ) → a ≡ pos 0 → pos 0 *ℤ c ≡ (a *ℤ b) *ℤ pos d
none_times a b c d e =
    let z : a *ℤ b ≡ pos 0 = rw e (omega (arith, ints)) in
    rw z (omega (arith, ints))

-- less nothing times a fraction
pub less_none : (x f q : Frac) → f.num ≡ pos 0 → IsLess x f q x
less_none x f q e = record {
  product = nought;
  is_product = none_times f.num q.num (pos (f.den * q.den)) 1 e;
  fits = λ m l. zero_fits x m l;
  is_difference = less_zero x.num x.den;
}

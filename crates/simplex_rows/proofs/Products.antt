-- Whole numbers of few bits, less a product of two such.
use Rattle.std.proofs.Common.{◌≡◌, refl, ℕ, ◌*◌, ◌/◌, ◌<◌, ◌^◌, ℤ, pos, neg_ℤ, unsigned_abs, ◌+ℤ◌, ◌-ℤ◌, ◌*ℤ◌, FitsSigned, arith, Option, Some, None, IsSome, IfSome, ◌↔◌, MatchOption, false, true}
use Rattle.std.proofs.lemmas.Int.{ints, unsigned_abs-mul}
use Rattle.std.proofs.lemmas.Nat.{mul-lt}
use Rattle.std.proofs.lemmas.Nat.Gcd.{dvd_antisymm, dvd_refl}
use Rattle.std.proofs.Math.Nat.{one-dvd, eq-one_of_dvd-one}
use Rattle.std.specs.Int.{w128}
use Rattle.raml_num.specs.Divisors.{IsLcm}
use Rattle.frac128.specs.declared.Frac.{Frac}
use Rattle.frac128.specs.Lowest.{InLowestTerms}
use Rattle.frac128.specs.Values.{Fits, DifferenceFits}
use Rattle.simplex_rows.proofs.Differing.{times_one}
use Rattle.simplex_rows.specs.Entries.{IsLess, LessLeaves}

short_product : (a b : ℤ) → unsigned_abs a < 2 ^ 63 → unsigned_abs b < 2 ^ 63 → unsigned_abs (a *ℤ b) < 2 ^ 126
short_product a b h k =
    let l : unsigned_abs a * unsigned_abs b < 2 ^ 63 * 2 ^ 63 = mul-lt (unsigned_abs a) (unsigned_abs b) (2 ^ 63) (2 ^ 63) h k in
    rw (unsigned_abs-mul a b) (omega arith)

product_in_range : (n : ℤ) → unsigned_abs n < 2 ^ 126 → FitsSigned w128 n
product_in_range n h = omega (arith, ints)

pub product_fits : (a b : ℤ) → unsigned_abs a < 2 ^ 63 → unsigned_abs b < 2 ^ 63 → FitsSigned w128 (a *ℤ b)
product_fits a b h k = product_in_range (a *ℤ b) (short_product a b h k)

apart : (x p : ℤ) → unsigned_abs x < 2 ^ 63 → unsigned_abs p < 2 ^ 126 → unsigned_abs (x -ℤ p) < 2 ^ 127
apart x p h k = grind (arith, ints)

in_range : (n : ℤ) → unsigned_abs n < 2 ^ 127 → FitsSigned w128 n
in_range n h = omega (arith, ints)

pub difference_fits : (x a b : ℤ) → unsigned_abs x < 2 ^ 63 → unsigned_abs a < 2 ^ 63 → unsigned_abs b < 2 ^ 63 → FitsSigned w128 (x -ℤ a *ℤ b)
difference_fits x a b l h k = in_range (x -ℤ a *ℤ b) (apart x (a *ℤ b) l (short_product a b h k))

negative_fits : (p : ℤ) → unsigned_abs p < 2 ^ 126 → Fits (neg_ℤ p)
negative_fits p h = omega (arith, ints)

both_fit : (x p : ℤ) → unsigned_abs x < 2 ^ 63 → unsigned_abs p < 2 ^ 126 → Fits (x +ℤ neg_ℤ p)
both_fit x p h k = grind (arith, ints)

whole_lowest : (n : ℕ) → n < 2 ^ 126 → InLowestTerms n 1
whole_lowest n h = record { small = omega arith; positive = omega arith; fits = omega arith; coprime = record { common = λ d p q. eq-one_of_dvd-one q } }

whole_difference : (a p : ℤ) → (a -ℤ p) *ℤ pos 1 ≡ (a *ℤ pos 1 -ℤ p *ℤ pos 1) *ℤ pos 1
whole_difference a p = omega (arith, ints)

-- of a product that is a whole number, too
less_whole : (x f q p r : Frac) → x.den ≡ 1 → f.den ≡ 1 → q.den ≡ 1 → p.den ≡ 1 → r.den ≡ 1 → p.num ≡ f.num *ℤ q.num → r.num ≡ x.num -ℤ p.num → unsigned_abs x.num < 2 ^ 63 → unsigned_abs p.num < 2 ^ 126 → IsLess x f q r
less_whole x f q p r xd fd qd pd rd pn rn hx hp = record {
  product = p;
  is_product = rw (fd, qd, pd, pn) refl;
  fits = λ m l. fits m (rw (xd, pd) at l);
  is_difference = rw (xd, pd, rd, rn) (whole_difference x.num p.num);
}
  where
    fits : (m : ℕ) → IsLcm 1 1 m → DifferenceFits x p m
    fits m l =
        let m1 : m ≡ 1 = dvd_antisymm (l.2 1 (dvd_refl 1) (one-dvd 1)) l.0 in
        let first : m / x.den ≡ 1 = rw (m1, xd) refl in
        let second : m / p.den ≡ 1 = rw (m1, pd) refl in
        record {
          common = rw m1 (omega arith);
          left = rw (first, times_one x.num) (omega arith);
          right = rw (second, times_one (neg_ℤ p.num)) (negative_fits p.num hp);
          both = rw (first, second, times_one x.num, times_one (neg_ℤ p.num)) (both_fit x.num p.num hx hp);
        }

-- what the difference of short numbers tells
pub short_less : (x f q : Frac) (o : Option Frac) → x.den ≡ 1 → f.den ≡ 1 → q.den ≡ 1 → unsigned_abs x.num < 2 ^ 63 → unsigned_abs f.num < 2 ^ 63 → unsigned_abs q.num < 2 ^ 63
    → (IsSome o ↔ (unsigned_abs (x.num -ℤ f.num *ℤ q.num) < 2 ^ 127)) → IfSome o (λ r. r.num ≡ x.num -ℤ f.num *ℤ q.num) → IfSome o (λ r. r.den ≡ 1) → MatchOption o (LessLeaves x f q) (IsLess x f q)
short_less x f q None xd fd qd hx hf hq fits num den = absurd (let n : false ≡ true = fits.1 (apart x.num (f.num *ℤ q.num) hx (short_product f.num q.num hf hq)) in (cc))
short_less x f q (Some r) xd fd qd hx hf hq fits num den =
    let h : unsigned_abs (f.num *ℤ q.num) < 2 ^ 126 = short_product f.num q.num hf hq in
    let p : Frac = record { num = f.num *ℤ q.num; den = 1; lowest = whole_lowest (unsigned_abs (f.num *ℤ q.num)) h } in
    less_whole x f q p r xd fd qd refl den refl num hx h

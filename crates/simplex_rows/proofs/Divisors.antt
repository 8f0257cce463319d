-- What divides numbers.
use Rattle.std.proofs.Common.{◌≡◌, refl, sym, ap, ◌∙◌, ℕ, zero, suc, ◌*◌, ◌<◌, ◌≤◌, ◌^◌, [], ◌∷◌, List, FitsSigned, arith, to_z, of_z, w64, negsuc, ℤ, pos, ◌<ℤ◌, ◌*ℤ◌, unsigned_abs}
use Rattle.std.specs.Int.RustNames.{int_div, int_rem}
use Rattle.std.specs.Int.{IsGcd}
use Rattle.std.proofs.lemmas.Int.{ints, unsigned_abs-mul, quot-rem, quot_is, quot_fits, to_z_pos, fits_signed_from_abs}
use Rattle.std.proofs.lemmas.Nat.Gcd.{dvd_refl, dvd_trans, le_of_dvd, mod-eq-zero_of_dvd, IsGcd-swap}
use Rattle.std.proofs.Math.Nat.{one-dvd}
use lib.IntN.{*ℤ_comm}
use Rattle.raml_num.proofs.Differences.{mul_assoc}
use Rattle.raml_num.proofs.Dividing.{positive_gcd}
use Rattle.simplex_rows.specs.Multiples.{IsMultiple, AreMultiples}

-- a quotient that is exact
no_rest : (n k : ℤ) → IsMultiple k n → int_rem n k ≡ pos 0
no_rest (pos n) k h = ap pos (mod-eq-zero_of_dvd (unsigned_abs k) h)
no_rest (negsuc n) k h = rw (mod-eq-zero_of_dvd (unsigned_abs k) h) refl

pub exact : (n k : ℤ) → IsMultiple k n → int_div n k *ℤ k ≡ n
exact n k h = let whole = quot-rem n k in let none = no_rest n k h in omega (arith, ints)

pub quotient_read : (n k : ℤ) → FitsSigned w64 n → FitsSigned w64 k → pos 0 <ℤ k → IsMultiple k n → to_z w64 (of_z w64 (int_div (to_z w64 (of_z w64 n)) (to_z w64 (of_z w64 k)))) *ℤ k ≡ n
quotient_read n k f g p h = rw (quot_is w64 n k f g (quot_fits w64 n k f p)) (exact n k h)

pub positive_factor : (e k d : ℤ) → pos 0 <ℤ k → pos 0 <ℤ d → e *ℤ k ≡ d → pos 0 <ℤ e
positive_factor (pos zero) k d h g is = absurd (omega (arith, ints))
positive_factor (pos (suc e)) k d h g is = omega (arith, ints)
positive_factor (negsuc e) (pos zero) d h g is = absurd (omega (arith, ints))
positive_factor (negsuc e) (pos (suc k)) d h g is = absurd (omega (arith, ints))
positive_factor (negsuc e) (negsuc k) d h g is = absurd (omega (arith, ints))

not_greater : (m k n : ℕ) → 0 < k → m * k ≡ n → m ≤ n
not_greater m k n p e = grind arith

pub quotient_within : (m n k : ℤ) → pos 0 <ℤ k → m *ℤ k ≡ n → unsigned_abs m ≤ unsigned_abs n
quotient_within m n k p e = not_greater (unsigned_abs m) (unsigned_abs k) (unsigned_abs n) (omega (arith, ints)) (sym (unsigned_abs-mul m k) ∙ ap unsigned_abs e)

pub swapped : (n d k : ℤ) → n *ℤ (d *ℤ k) ≡ (n *ℤ k) *ℤ d
swapped n d k = ap (λ (z : ℤ). n *ℤ z) (*ℤ_comm d k) ∙ sym (mul_assoc n k d)

-- a greatest common divisor with a positive number
module _ (a n : ℤ) (g : ℕ) (p : pos 0 <ℤ a) (f : FitsSigned w64 a) (is : IsGcd (unsigned_abs a) (unsigned_abs n) g) where
  positive_size : 0 < unsigned_abs a
  positive_size = omega (arith, ints)

  below : g < 2 ^ 63
  below = let l = le_of_dvd positive_size is.0 in let m = f.sfits in omega (arith, ints)

  pub gcd_fits : FitsSigned w64 (pos g)
  gcd_fits = fits_signed_from_abs w64 (pos g) below

  pub gcd_positive : pos 0 <ℤ to_z w64 g
  gcd_positive = rw (to_z_pos w64 g below) (let l = positive_gcd (unsigned_abs n) (unsigned_abs a) g positive_size (IsGcd-swap (unsigned_abs a) (unsigned_abs n) g is) in omega (arith, ints))

  pub divides_first : IsMultiple (to_z w64 g) a
  divides_first = rw (to_z_pos w64 g below) is.0

  pub divides_second : IsMultiple (to_z w64 g) n
  divides_second = rw (to_z_pos w64 g below) is.1

-- the numbers that were looked at, and the first, are multiples of `common`
pub record CommonSoFar (first : ℤ) (all : List ℤ) (common : ℤ) (left : List ℤ) : Type 0 where
  pub positive : pos 0 <ℤ common
  pub divides : IsMultiple common first
  pub each : (k : ℤ) → IsMultiple k common → AreMultiples k left → AreMultiples k all

pub common_starts : (first : ℤ) (all : List ℤ) → pos 0 <ℤ first → CommonSoFar first all first all
common_starts first all p = record { positive = p; divides = dvd_refl (unsigned_abs first); each = λ k g rest. rest }

pub common_goes_on : (first : ℤ) (all : List ℤ) (common new : ℤ) (left later : List ℤ) (n : ℤ) → CommonSoFar first all common left → left ≡ n ∷ later → pos 0 <ℤ new → IsMultiple new common → IsMultiple new n → CommonSoFar first all new later
common_goes_on first all common new left later n so_far is p d e = record {
  positive = p;
  divides = dvd_trans (unsigned_abs new) d so_far.divides;
  each = λ k g rest. so_far.each k (dvd_trans (unsigned_abs k) g d) (rw is (dvd_trans (unsigned_abs k) g e, rest));
}

pub common_ends : (first : ℤ) (all : List ℤ) (common : ℤ) (left : List ℤ) → CommonSoFar first all common left → left ≡ [] → AreMultiples common all
common_ends first all common left so_far is = so_far.each common (dvd_refl (unsigned_abs common)) (rw is tt)

all_of_one : (k : ℤ) (ns : List ℤ) → k ≡ pos 1 → AreMultiples k ns
all_of_one k [] e = tt
all_of_one k (n ∷ ns) e = (rw e (one-dvd (unsigned_abs n)), all_of_one k ns e)

pub common_is_one : (first : ℤ) (all : List ℤ) (common : ℤ) (left : List ℤ) → CommonSoFar first all common left → common ≡ pos 1 → AreMultiples common all
common_is_one first all common left so_far one = all_of_one common all one

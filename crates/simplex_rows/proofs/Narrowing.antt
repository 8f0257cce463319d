-- Fractions as whole numbers over a common denominator.
use Rattle.std.proofs.Common.{negsuc, ◌≡◌, ◌≢◌, refl, sym, ap, subst, ◌∙◌, ℕ, suc, ◌+◌, ◌*◌, ◌/◌, ◌<◌, ◌^◌, ◌-◌, [], ◌∷◌, ◌++◌, length, drop, slice_index_or, FitsSigned, to_z, of_z, w64, ℤ, pos, ◌*ℤ◌, ◌<ℤ◌, ◌≤ℤ◌, unsigned_abs, Bool, true, false, ◌==◌, if◌then◌else◌, Option, Some, None, IfSome, SomeIff, arith}
use Rattle.std.specs.Int.{w128}
use Rattle.std.specs.Int.RustNames.{int_div}
use Rattle.std.proofs.lemmas.Int.{ints, unsigned_abs-mul, quot_is, quot_fits, fits_signed_from_abs}
use Rattle.std.proofs.lemmas.List.{append-nil, append_assoc, drop_more}
use Rattle.std.proofs.lemmas.Nat.{mul-lt}
use Rattle.std.proofs.lemmas.Nat.Gcd.{dvd_refl, dvd_trans, le_of_dvd}
use Rattle.std.proofs.Math.Nat.{mul-div_cancel', dvd-mul_right}
use lib.IntN.{*ℤ_comm}
use Prim.Native.Nat.{◌∣◌}
use Rattle.frac128.specs.declared.Frac.{Frac}
use Rattle.frac128.specs.Values.{numerator, denominator, IsOver}
use Rattle.raml_num.proofs.Signed.{cancelled}
use Rattle.simplex_rows.specs.Entries.{Entries, at, SparseFrom, IsSparse}
use Rattle.simplex_rows.specs.Multiples.{IsMultiple}
use Rattle.simplex_rows.specs.Narrowing.{DenominatorsDivide, numerators_over}
use Rattle.simplex_rows.specs.ShortRows.{Wholes, whole_at, AscendsFrom, AreWithin, ShortRow, IsShort, fractions_of}
use Rattle.simplex_rows.specs.Sweeping.{SameFractions}
use Rattle.simplex_rows.proofs.Overs.{crossed}
use Rattle.simplex_rows.proofs.Divisors.{positive_factor}
use Rattle.simplex_rows.proofs.Wholes.{product_positive}
use Rattle.simplex_rows.proofs.FewAppending.{within_both}
use Rattle.simplex_rows.proofs.ShortReads.{row_reads, den_positive}
use Rattle.simplex_rows.proofs.ShortTells.{parts_same}

-- a common multiple: the quotient q of the first by what both have in common, times the second
module _ (q common shared den : ℤ) (is : q *ℤ shared ≡ common) (p : pos 0 <ℤ common) (s : pos 0 <ℤ shared) (d : pos 0 <ℤ den) (divides : IsMultiple shared den) where
  size : unsigned_abs (q *ℤ den) ≡ unsigned_abs q * unsigned_abs den
  size = unsigned_abs-mul q den

  pub multiple_positive : pos 0 <ℤ (q *ℤ den)
  multiple_positive = product_positive q den (positive_factor q shared common s p is) d

  pub multiple_of_second : unsigned_abs den ∣ unsigned_abs (q *ℤ den)
  multiple_of_second = rw size (let turned : unsigned_abs den * unsigned_abs q ≡ unsigned_abs q * unsigned_abs den = omega arith in subst (λ (m : ℕ). unsigned_abs den ∣ m) turned (dvd-mul_right (unsigned_abs den) (unsigned_abs q)))

  pub multiple_of_first : unsigned_abs common ∣ unsigned_abs (q *ℤ den)
  multiple_of_first =
      let rest : ℕ = unsigned_abs den / unsigned_abs shared in
      let first : unsigned_abs q * unsigned_abs shared ≡ unsigned_abs common = sym (unsigned_abs-mul q shared) ∙ ap unsigned_abs is in
      let second : unsigned_abs shared * rest ≡ unsigned_abs den = mul-div_cancel' (unsigned_abs shared) divides in
      let turned : unsigned_abs q * unsigned_abs shared * rest ≡ unsigned_abs q * (unsigned_abs shared * rest) = omega arith in
      let whole : unsigned_abs common * rest ≡ unsigned_abs (q *ℤ den) = ap (λ (m : ℕ). m * rest) (sym first) ∙ turned ∙ ap (λ (m : ℕ). unsigned_abs q * m) second ∙ sym size in
      subst (λ (m : ℕ). unsigned_abs common ∣ m) whole (dvd-mul_right (unsigned_abs common) rest)

-- what holds of the number that may be told
pub if_told : (P : ℤ → Type 0) (F : Type 0) (v : ℤ) (told : Option ℤ) → SomeIff told F v → P v → IfSome told P
if_told P F v None is p = tt
if_told P F v (Some n) is p = subst P (sym is.1) p

-- the entry that comes next
pub comes_next : (es : Entries) (i : ℕ) (e : ℕ × Frac) → e ≡ slice_index_or es i e → i < length es → drop i es ≡ e ∷ drop (i + 1) es
comes_next es i e is h = rw (← is) at (drop_more es i e h)

-- the denominators that were looked at divide what `common` divides
pub record MultipleSoFar (all : Entries) (common : ℤ) (left : Entries) : Type 0 where
  pub positive : pos 0 <ℤ common
  pub divide : (m : ℕ) → unsigned_abs common ∣ m → DenominatorsDivide m left → DenominatorsDivide m all

pub multiple_starts : (all : Entries) → MultipleSoFar all (pos 1) all
multiple_starts all = record { positive = omega (arith, ints); divide = λ m h rest. rest }

pub multiple_goes_on : (all : Entries) (common new : ℤ) (left later : Entries) (e : ℕ × Frac) → MultipleSoFar all common left → left ≡ e ∷ later
    → pos 0 <ℤ new → unsigned_abs common ∣ unsigned_abs new → denominator e.1 ∣ unsigned_abs new → MultipleSoFar all new later
multiple_goes_on all common new left later e so_far is p first second = record {
  positive = p;
  divide = λ m h rest. so_far.divide m (dvd_trans (unsigned_abs common) first h) (rw is (dvd_trans (denominator e.1) second h, rest));
}

pub multiple_ends : (all : Entries) (common : ℤ) (left : Entries) → MultipleSoFar all common left → left ≡ [] → DenominatorsDivide (unsigned_abs common) all
multiple_ends all common left so_far is = so_far.divide (unsigned_abs common) (dvd_refl (unsigned_abs common)) (rw is tt)

-- what a denominator is multiplied by
module _ (x : Frac) (den : ℤ) (p : pos 0 <ℤ den) (f : FitsSigned w64 den) (divides : denominator x ∣ unsigned_abs den) where
  below : denominator x < 2 ^ 63
  below = let l = le_of_dvd (omega (arith, ints)) divides in let m = f.sfits in omega (arith, ints)

  pub denominator_fits : FitsSigned w64 (pos (denominator x))
  denominator_fits = fits_signed_from_abs w64 (pos (denominator x)) below

  plain : int_div den (pos (denominator x)) ≡ pos (unsigned_abs den / denominator x)
  plain = by den p
    where
      by : (n : ℤ) → pos 0 <ℤ n → int_div n (pos (denominator x)) ≡ pos (unsigned_abs n / denominator x)
      by (pos n) q = refl
      by (negsuc n) q = absurd (omega (arith, ints))

  pub quotient_is : to_z w64 (of_z w64 (int_div (to_z w64 (of_z w64 den)) (to_z w64 (of_z w64 (pos (denominator x)))))) ≡ pos (unsigned_abs den / denominator x)
  quotient_is =
      let q = x.lowest.positive in
      quot_is w64 den (pos (denominator x)) f denominator_fits (quot_fits w64 den (pos (denominator x)) f (omega (arith, ints))) ∙ plain

-- a product of a number of 63 bits and one of 64
pub product_fits : (m n : ℤ) → unsigned_abs m < 2 ^ 63 → FitsSigned w64 n → FitsSigned w128 (m *ℤ n)
product_fits m n h f =
    let second : unsigned_abs n < 2 ^ 63 + 1 = (let k = f.sfits in omega (arith, ints)) in
    let below : unsigned_abs m * unsigned_abs n < 2 ^ 63 * (2 ^ 63 + 1) = mul-lt (unsigned_abs m) (unsigned_abs n) (2 ^ 63) (2 ^ 63 + 1) h second in
    fits_signed_from_abs w128 (m *ℤ n) (rw (unsigned_abs-mul m n) (omega arith))

-- the numerators that were made, and those to come
pub record NarrowingSoFar (d : ℕ) (all : Entries) (numbers : Wholes) (left : Entries) : Type 0 where
  pub made : numbers ++ numerators_over d left ≡ numerators_over d all
  pub short : AreWithin (pos (2 ^ 63 - 1)) numbers
  pub divide : DenominatorsDivide d left

pub narrowing_goes_on : (d : ℕ) (all : Entries) (numbers : Wholes) (left later : Entries) (e : ℕ × Frac) (n : ℤ) → NarrowingSoFar d all numbers left → left ≡ e ∷ later
    → n ≡ numerator e.1 *ℤ pos (d / denominator e.1) → pos (unsigned_abs n) ≤ℤ pos (2 ^ 63 - 1) → NarrowingSoFar d all (numbers ++ (e.0, n) ∷ []) later
narrowing_goes_on d all numbers left later e n so_far is value h =
    let next : numerators_over d left ≡ (e.0, n) ∷ numerators_over d later = rw (is, value) refl in
    let rest : DenominatorsDivide d (e ∷ later) = rw is at so_far.divide in
    record {
      made = append_one ∙ ap (λ (ns : Wholes). numbers ++ ns) (sym next) ∙ so_far.made;
      short = within_both (pos (2 ^ 63 - 1)) numbers ((e.0, n) ∷ []) so_far.short (h, tt);
      divide = rest.1;
    }
  where
    append_one : (numbers ++ (e.0, n) ∷ []) ++ numerators_over d later ≡ numbers ++ (e.0, n) ∷ numerators_over d later
    append_one = append_assoc numbers ((e.0, n) ∷ []) (numerators_over d later)

pub narrowing_ends : (d : ℕ) (all : Entries) (numbers : Wholes) (left : Entries) → NarrowingSoFar d all numbers left → left ≡ [] → numbers ≡ numerators_over d all
narrowing_ends d all numbers left so_far is = sym (append-nil numbers) ∙ (rw is at so_far.made)

-- the numerators over d make the same fractions
over_at : (d : ℕ) (es : Entries) (c : ℕ) → DenominatorsDivide d es → IsOver (whole_at c (numerators_over d es)) d (at c es)
over_at d [] c h = omega (arith, ints)
over_at d ((k, x) ∷ es) c h = by (k == c) (over_at d es c h.1)
  where
    turned : (d / denominator x) * denominator x ≡ d
    turned = let whole = mul-div_cancel' (denominator x) h.0 in omega arith

    by : (t : Bool) → IsOver (whole_at c (numerators_over d es)) d (at c es) → IsOver (if t then numerator x *ℤ pos (d / denominator x) else whole_at c (numerators_over d es)) d (if t then x else at c es)
    by true r = crossed (numerator x) (numerator x *ℤ pos (d / denominator x)) d (denominator x) (d / denominator x) refl turned
    by false r = r

no_factor : (e f d : ℕ) → 0 < d → e * f ≡ d → pos f ≢ pos 0
no_factor e f d h is z =
    let none : f ≡ 0 = omega (arith, ints) in
    let gone : e * f ≡ 0 = rw none (omega arith) in
    omega arith

not_none : (n : ℤ) (f : ℕ) → pos f ≢ pos 0 → n ≢ pos 0 → n *ℤ pos f ≢ pos 0
not_none n f h m z = m (cancelled (pos f) n (pos 0) h (*ℤ_comm (pos f) n ∙ z ∙ omega (arith, ints)))

ascend : (d b : ℕ) (es : Entries) → 0 < d → DenominatorsDivide d es → SparseFrom b es → AscendsFrom b (numerators_over d es)
ascend d b [] p h s = tt
ascend d b ((k, x) ∷ es) p h s = (s.0, not_none (numerator x) (d / denominator x) (no_factor (denominator x) (d / denominator x) d p (mul-div_cancel' (denominator x) h.0)) s.1, ascend d (suc k) es p h.1 s.2)

pub narrowed_short : (es : Entries) (numbers : Wholes) (den bound : ℤ) → IsSparse es → pos 0 <ℤ den → DenominatorsDivide (unsigned_abs den) es → numbers ≡ numerators_over (unsigned_abs den) es
    → den ≤ℤ bound → AreWithin bound numbers → bound <ℤ pos (2 ^ 63) → IsShort (record { numbers = numbers; den = den; bound = bound })
narrowed_short es numbers den bound s p h is l w f = record {
  ascends = rw is (ascend (unsigned_abs den) 0 es (omega (arith, ints)) h s);
  within = w;
  positive = p;
  den_within = l;
  fits = f;
}

pub narrowed_same : (es : Entries) (row : ShortRow) → IsShort row → DenominatorsDivide (unsigned_abs row.den) es → row.numbers ≡ numerators_over (unsigned_abs row.den) es → SameFractions es (fractions_of row)
narrowed_same es row short h is c =
    parts_same (whole_at c row.numbers) (unsigned_abs row.den) (at c es) (at c (fractions_of row)) (den_positive row short)
    (rw is (over_at (unsigned_abs row.den) es c h)) (row_reads row short c)

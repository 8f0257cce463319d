-- What is read from short rows, as said of their fractions.
use Rattle.std.proofs.Common.{◌≡◌, ◌≢◌, refl, sym, ap, subst, ◌∙◌, ℕ, ◌<◌, ℤ, pos, ◌*ℤ◌, ◌<ℤ◌, unsigned_abs, Option, Some, None, FitsSigned, arith}
use Rattle.std.proofs.lemmas.Int.{ints}
use Rattle.std.proofs.lemmas.Cmp.{int_ranked}
use Rattle.std.specs.Cmp.{int_cmp_is}
use Rattle.std.specs.Ordering.{int_cmp}
use Rattle.std.specs.declared.cmp.Ordering.{Ordering}
use Rattle.std.specs.declared.cmp.Ordering.TheVariants.{Less, Equal, Greater}
use Rattle.raml_num.proofs.Differences.{diffs, diff-pos, is_diff, diff_same}
use Rattle.raml_num.proofs.Signed.{cancelled, lt_mul, lt_cancel}
use lib.IntN.{*ℤ_comm}
use Rattle.std.specs.Int.{w64}
use Rattle.frac128.specs.declared.Frac.{Frac}
use Rattle.frac128.specs.Order.{same_parts}
use Rattle.frac128.specs.Values.{numerator, denominator, IsOver, IsQuotient}
use Rattle.simplex_rows.specs.Entries.{at, IsNextColumn}
use Rattle.simplex_rows.specs.Sweeping.{SameParts}
use Rattle.simplex_rows.specs.ShortRows.{whole_at, IsNextWhole, ShortRow, IsShort, fractions_of}
use Rattle.simplex_rows.proofs.ShortReads.{row_reads, den_positive, den_below, den_is, number_small, none_there}
use Rattle.simplex_rows.proofs.ShortLaws.{quotient_is}

-- two fractions of one value
left : (X : ℤ) (d y : ℕ) → pos d *ℤ (X *ℤ pos y) ≡ (X *ℤ pos d) *ℤ pos y
left X d y = rw (is_diff X) (simp (diffs, diff-pos) (diff_same _ _ _ _ (omega arith)))

middle : (n : ℤ) (x y : ℕ) → (n *ℤ pos x) *ℤ pos y ≡ (n *ℤ pos y) *ℤ pos x
middle n x y = rw (is_diff n) (simp (diffs, diff-pos) (diff_same _ _ _ _ (omega arith)))

pub parts_same : (n : ℤ) (d : ℕ) (x y : Frac) → 0 < d → IsOver n d x → IsOver n d y → SameParts x y
parts_same n d x y p i j =
    same_parts x y (cancelled (pos d) _ _ (λ z. omega (arith, ints))
    (left x.num d y.den ∙ ap (λ (v : ℤ). v *ℤ pos y.den) i ∙ middle n x.den y.den ∙ ap (λ (v : ℤ). v *ℤ pos x.den) (sym j) ∙ sym (left y.num d x.den)))

-- the sign of a number is that of the fraction
turned : (n : ℤ) (d : ℕ) → n *ℤ pos d ≡ pos d *ℤ n
turned n d = *ℤ_comm n (pos d)

no_product : (d e : ℕ) → pos d *ℤ pos 0 ≡ pos e *ℤ pos 0
no_product d e = omega (arith, ints)

module _ (n m : ℤ) (d e : ℕ) (p : 0 < d) (q : 0 < e) (h : m *ℤ pos d ≡ n *ℤ pos e) where
  both : pos d *ℤ m ≡ pos e *ℤ n
  both = sym (turned m d) ∙ h ∙ turned n e

  negative_too : n <ℤ pos 0 → m <ℤ pos 0
  negative_too l = lt_cancel m (pos 0) d (rw (both, no_product d e) (lt_mul n (pos 0) e q l))

  positive_too : pos 0 <ℤ n → pos 0 <ℤ m
  positive_too l = lt_cancel (pos 0) m d (rw (both, no_product d e) (lt_mul (pos 0) n e q l))

  none_too : n ≡ pos 0 → m ≡ pos 0
  none_too z = cancelled (pos d) m (pos 0) (λ w. omega (arith, ints)) (both ∙ ap (λ (v : ℤ). pos e *ℤ v) z ∙ no_product e d)

  by_order : (o : Ordering) → o ≡ int_cmp n (pos 0) → int_cmp n (pos 0) ≡ int_cmp m (pos 0)
  by_order Less g = sym g ∙ int_cmp_is m (pos 0) Less (negative_too (int_ranked n (pos 0) Less g))
  by_order Equal g = sym g ∙ int_cmp_is m (pos 0) Equal (none_too (int_ranked n (pos 0) Equal g))
  by_order Greater g = sym g ∙ int_cmp_is m (pos 0) Greater (positive_too (int_ranked n (pos 0) Greater g))

  pub same_sign : int_cmp n (pos 0) ≡ int_cmp m (pos 0)
  same_sign = by_order (int_cmp n (pos 0)) refl

module _ (row : ShortRow) (is : IsShort row) (c : ℕ) where
  abbrev x : Frac
  x = at c (fractions_of row)

  -- as the code makes it
  -- it has the sign of the number
  pub sign_is : int_cmp (whole_at c row.numbers) (pos 0) ≡ int_cmp (numerator x) (pos 0)
  sign_is = same_sign (whole_at c row.numbers) (numerator x) (unsigned_abs row.den) (denominator x) (den_positive row is) x.lowest.positive (row_reads row is c)

  pub number_positive : pos 0 <ℤ numerator x → pos 0 <ℤ whole_at c row.numbers
  number_positive p = positive_too (numerator x) (whole_at c row.numbers) (denominator x) (unsigned_abs row.den) x.lowest.positive (den_positive row is) (sym (row_reads row is c)) p

  pub number_fits : FitsSigned w64 (whole_at c row.numbers)
  number_fits = let s = number_small row is c in omega (arith, ints)

  pub it_reads : (y : Frac) → numerator y *ℤ row.den ≡ whole_at c row.numbers *ℤ pos (denominator y) → SameParts x y
  it_reads y e = parts_same (whole_at c row.numbers) (unsigned_abs row.den) x y (den_positive row is) (row_reads row is c) (rw (den_is row is) e)

pub den_fits : (row : ShortRow) → IsShort row → FitsSigned w64 row.den
den_fits row is = let s = den_below row is in let p = is.positive in omega (arith, ints)

-- the ratio of two numbers
pub ratio_is : (row : ShortRow) → IsShort row → (c s : ℕ) (q : Frac) → pos 0 <ℤ whole_at s row.numbers → numerator q *ℤ whole_at s row.numbers ≡ whole_at c row.numbers *ℤ pos (denominator q)
    → IsQuotient (at c (fractions_of row)) (at s (fractions_of row)) q
ratio_is row is c s q p e =
    let f : ℕ = unsigned_abs (whole_at s row.numbers) in
    let f_is : pos f ≡ whole_at s row.numbers = omega (arith, ints) in
    quotient_is (whole_at c row.numbers) (unsigned_abs row.den) f (at c (fractions_of row)) (at s (fractions_of row)) q (den_positive row is) (omega (arith, ints))
    (row_reads row is c) (subst (λ (z : ℤ). IsOver z (unsigned_abs row.den) (at s (fractions_of row))) (sym f_is) (row_reads row is s)) (subst (λ (z : ℤ). numerator q *ℤ z ≡ whole_at c row.numbers *ℤ pos (denominator q)) (sym f_is) e)

pub next_too : (from : ℕ) (row : ShortRow) (o : Option ℕ) → IsShort row → IsNextWhole from row.numbers o → IsNextColumn from (fractions_of row) o
next_too from row None is n = λ k h. none_there k 0 row.den row.numbers is.ascends (n k h)
next_too from row (Some c) is n = (n.0, is_number, λ k h l. none_there k 0 row.den row.numbers is.ascends (n.2 k h l))
  where
    is_number : numerator (at c (fractions_of row)) ≢ pos 0
    is_number e =
        let x : Frac = at c (fractions_of row) in
        let i : IsOver (whole_at c row.numbers) (unsigned_abs row.den) x = row_reads row is c in
        let z : whole_at c row.numbers *ℤ pos x.den ≡ pos 0 = sym i ∙ ap (λ (v : ℤ). v *ℤ pos (unsigned_abs row.den)) e ∙ omega (arith, ints) in
        n.1 (cancelled (pos x.den) (whole_at c row.numbers) (pos 0) (let p = x.lowest.positive in λ w. omega (arith, ints)) (omega (arith, ints)))

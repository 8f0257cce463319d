-- What is done to short rows, as said of their fractions.
use Rattle.std.proofs.Common.{◌≡◌, refl, sym, ap, subst, ◌∙◌, ℕ, ◌*◌, ◌<◌, ℤ, pos, ◌*ℤ◌, ◌-ℤ◌, ◌<ℤ◌, unsigned_abs, arith}
use Rattle.std.proofs.lemmas.Int.{ints, unsigned_abs-mul}
use Rattle.raml_num.proofs.Differences.{diffs, diff-pos, is_diff, diff_same}
use Rattle.raml_num.proofs.Signed.{cancelled}
use Rattle.frac128.specs.declared.Frac.{Frac}
use Rattle.frac128.specs.Values.{numerator, denominator, IsOver, IsQuotient}
use Rattle.simplex_rows.specs.Entries.{at}
use Rattle.simplex_rows.specs.Sweeping.{IsSwept, SameFractions}
use Rattle.simplex_rows.specs.ShortRows.{whole_at, ShortRow, IsShort, SameValues, IsOverIts, IsCombined, ShortSwept, fractions_of}
use Rattle.simplex_rows.specs.Sharing.{Shares}
use Rattle.simplex_rows.proofs.ShortReads.{row_reads, number_small, den_positive, den_is, den_below}
use Rattle.simplex_rows.proofs.ShortTells.{parts_same}
use Rattle.simplex_rows.proofs.ShortLaws.{less_is, quotient_is}

-- x d = a x', and a e = b d, so x e = b x'
turn : (X e : ℤ) (d : ℕ) → pos d *ℤ (X *ℤ e) ≡ (X *ℤ pos d) *ℤ e
turn X e d = rw (is_diff X, is_diff e) (simp (diffs, diff-pos) (diff_same _ _ _ _ (omega arith)))

back : (a e : ℤ) (x : ℕ) → (a *ℤ pos x) *ℤ e ≡ (a *ℤ e) *ℤ pos x
back a e x = rw (is_diff a, is_diff e) (simp (diffs, diff-pos) (diff_same _ _ _ _ (omega arith)))

last : (b : ℤ) (d x : ℕ) → (b *ℤ pos d) *ℤ pos x ≡ pos d *ℤ (b *ℤ pos x)
last b d x = rw (is_diff b) (simp (diffs, diff-pos) (diff_same _ _ _ _ (omega arith)))

same_value : (a b : ℤ) (d e : ℕ) (x : Frac) → 0 < d → a *ℤ pos e ≡ b *ℤ pos d → IsOver a d x → IsOver b e x
same_value a b d e x p h i =
    cancelled (pos d) _ _ (λ z. omega (arith, ints))
    (turn (numerator x) (pos e) d ∙ ap (λ (v : ℤ). v *ℤ pos e) i ∙ back a (pos e) (denominator x) ∙ ap (λ (v : ℤ). v *ℤ pos (denominator x)) h ∙ last b d (denominator x))

-- a row of the same values reads the same fractions
pub reads_same : (old mid : ShortRow) → IsShort old → IsShort mid → SameValues old mid → (c : ℕ) → IsOver (whole_at c mid.numbers) (unsigned_abs mid.den) (at c (fractions_of old))
reads_same old mid o m same c =
    same_value (whole_at c old.numbers) (whole_at c mid.numbers) (unsigned_abs old.den) (unsigned_abs mid.den) (at c (fractions_of old)) (den_positive old o)
    (rw (den_is old o, den_is mid m) (sym (same.each c))) (row_reads old o c)

module _ (s : ℕ) (lead old new : ShortRow) (is_lead : IsShort lead) (is_old : IsShort old) (is_new : IsShort new) (swept : ShortSwept s lead old new) where
  abbrev row_factor : ℕ
  row_factor = unsigned_abs swept.own

  abbrev common_part : ℕ
  common_part = unsigned_abs swept.divisor

  own_is : pos row_factor ≡ swept.own
  own_is = let p = swept.own_positive in omega (arith, ints)

  part_is : pos common_part ≡ swept.divisor
  part_is = let p = swept.divisor_positive in omega (arith, ints)

  new_den : unsigned_abs new.den ≡ row_factor * unsigned_abs swept.mid.den
  new_den = ap unsigned_abs swept.den ∙ unsigned_abs-mul swept.own swept.mid.den

  new_number : (c : ℕ) → whole_at c new.numbers ≡ pos row_factor *ℤ whole_at c swept.mid.numbers -ℤ swept.times *ℤ whole_at c lead.numbers
  new_number c = rw own_is (swept.combined.each c)

  lead_parts : unsigned_abs lead.den ≡ row_factor * common_part
  lead_parts = ap unsigned_abs swept.lead_den ∙ unsigned_abs-mul swept.own swept.divisor

  -- as fractions, new is old less its fraction at s times the lead
  pub is_swept : IsSwept s (fractions_of lead) (fractions_of old) (fractions_of new)
  is_swept = record {
    each = λ c. less_is (whole_at c swept.mid.numbers) (whole_at s swept.mid.numbers) (whole_at c lead.numbers) swept.times (unsigned_abs swept.mid.den) (unsigned_abs lead.den) common_part row_factor
        (at c (fractions_of old)) (at s (fractions_of old)) (at c (fractions_of lead)) (at c (fractions_of new))
        (den_positive swept.mid swept.short) (let p = swept.divisor_positive in omega (arith, ints)) (let p = swept.own_positive in omega (arith, ints)) (rw part_is swept.number) lead_parts
        (number_small swept.mid swept.short c) (number_small swept.mid swept.short s) (number_small lead is_lead c) (den_below swept.mid swept.short) (den_below lead is_lead)
        (reads_same old swept.mid is_old swept.short swept.same c) (reads_same old swept.mid is_old swept.short swept.same s) (row_reads lead is_lead c)
        (rw (← new_number c, ← new_den) (row_reads new is_new c));
  }

-- as fractions, new is old over its fraction at s
pub is_over_its : (s : ℕ) (old new : ShortRow) → IsShort old → IsShort new → pos 0 <ℤ whole_at s old.numbers → IsOverIts s old new → (c : ℕ) → IsQuotient (at c (fractions_of old)) (at s (fractions_of old)) (at c (fractions_of new))
is_over_its s old new o n p over c =
    let f : ℕ = unsigned_abs (whole_at s old.numbers) in
    let f_is : pos f ≡ whole_at s old.numbers = omega (arith, ints) in
    let positive : 0 < f = omega (arith, ints) in
    quotient_is (whole_at c old.numbers) (unsigned_abs old.den) f (at c (fractions_of old)) (at s (fractions_of old)) (at c (fractions_of new)) (den_positive old o) positive
    (row_reads old o c) (subst (λ (z : ℤ). IsOver z (unsigned_abs old.den) (at s (fractions_of old))) (sym f_is) (row_reads old o s))
    (same_value (whole_at c new.numbers) (whole_at c old.numbers) (unsigned_abs new.den) f (at c (fractions_of new)) (den_positive new n) (rw (f_is, den_is new n) (over.each c)) (row_reads new n c))

-- what the code does: in order, lower terms, factors, and the row less the lead
pub swept_from : (s : ℕ) (lead old mid new : ShortRow) (own times : ℤ) → IsShort mid → SameValues old mid → Shares (whole_at s mid.numbers) lead.den own times → IsCombined own times lead.numbers mid.numbers new.numbers → new.den ≡ own *ℤ mid.den
    → ShortSwept s lead old new
swept_from s lead old mid new own times short same shares combined den = record {
  mid = mid;
  short = short;
  same = same;
  own = own;
  times = times;
  divisor = shares.divisor;
  own_positive = shares.own_positive;
  divisor_positive = shares.divisor_positive;
  number = shares.number_is;
  lead_den = shares.den_is;
  combined = combined;
  den = den;
}

pub same_row : (row : ShortRow) → SameValues row row
same_row row = record { each = λ c. refl }

-- rows of the same values are the same fractions
pub same_fractions : (old new : ShortRow) → IsShort old → IsShort new → SameValues old new → SameFractions (fractions_of old) (fractions_of new)
same_fractions old new o n same c = parts_same (whole_at c new.numbers) (unsigned_abs new.den) (at c (fractions_of old)) (at c (fractions_of new)) (den_positive new n) (reads_same old new o n same c) (row_reads new n c)

-- Rows of many numbers that are combined or reduced.
use Rattle.std.proofs.Common.{◌≡◌, refl, ap, ◌∙◌, ℕ, ◌+◌, ◌*◌, ◌<◌, ◌≤◌, ◌^◌, ℤ, pos, ◌*ℤ◌, ◌-ℤ◌, ◌+ℤ◌, ◌<ℤ◌, ◌≤ℤ◌, FitsSigned, unsigned_abs, arith, List, [], ◌++◌, length, take, drop}
use Rattle.std.proofs.lemmas.Int.{ints, unsigned_abs-mul, fits_signed_from_abs}
use Rattle.std.proofs.lemmas.List.{take_all, drop_all, append-nil, get_or_past}
use lib.IntN.{negsuc}
use Rattle.std.specs.Int.{w64}
use Rattle.raml_num.proofs.Signed.{le_mul, none_mul}
use Rattle.simplex_rows.specs.ShortRows.{whole_at, ShortRow, IsShort, listed_from, IsCombined, SameValues}
use Rattle.simplex_rows.specs.Placed.{placed, AreOf63Bits, StayWithin, ProductsFit, DifferencesFit, AreMultiplied, AreDivided, AreLessened, AreKept}
use Rattle.simplex_rows.proofs.Divisors.{positive_factor, quotient_within, swapped}
use Rattle.simplex_rows.proofs.Wholes.{at_within, product_positive, difference_within}
use Rattle.simplex_rows.proofs.ManyPlaces.{at_listed, stay_within, short_of}

-- a vector that was changed in place, as long as it was
pub written_back_whole : (n : ℕ) (xs ys : List ℤ) → n ≡ length xs → length ys ≡ length xs → take n (ys ++ drop (length ys) xs) ≡ ys
written_back_whole n xs ys e l =
    let past : length xs ≤ length ys = omega arith in
    rw (drop_all (length ys) xs past, append-nil) (take_all n ys (omega arith))

-- numbers under a bound of 63 bits
pub of_63_bits : (b : ℤ) (ns : List ℤ) → b <ℤ pos (2 ^ 63) → StayWithin b ns → AreOf63Bits ns
of_63_bits b ns l h = record { each = λ c. let w = h.each c in omega (arith, ints) }

-- each number over what divides all is under the bound, too
pub divided_within : (b k : ℤ) (old new : List ℤ) → pos 0 <ℤ k → AreDivided k old new → StayWithin b old → StayWithin b new
divided_within b k old new p d h = record { each = λ c. let l = quotient_within (placed new c) (placed old c) k p (d.each c) in let w = h.each c in omega (arith, ints) }

module _ (k : ℤ) (old new : List ℤ) (den less bound : ℤ) (p : pos 0 <ℤ k) (d : AreDivided k old new) (e : less *ℤ k ≡ den) (short : IsShort (record { numbers = listed_from 0 old; den = den; bound = bound })) where
  pub reduced_short : IsShort (record { numbers = listed_from 0 new; den = less; bound = bound })
  reduced_short =
      let q = positive_factor less k den p short.positive e in
      let l = quotient_within less den k p e in
      let s = short.positive in
      let m = short.den_within in
      short_of new less bound (divided_within bound k old new p d (stay_within old den bound short)) q (omega (arith, ints)) short.fits

  pub reduced_same : (b : ℤ) → SameValues (record { numbers = listed_from 0 old; den = den; bound = bound }) (record { numbers = listed_from 0 new; den = less; bound = b })
  reduced_same b = record { each = λ c. rw (at_listed c new, at_listed c old, ← e, ← d.each c) (swapped (placed new c) less k) }

-- a row under the least bound
pub tightened : (ns : List ℤ) (d b least : ℤ) → IsShort (record { numbers = listed_from 0 ns; den = d; bound = b }) → d ≤ℤ least → StayWithin least ns → least <ℤ pos (2 ^ 63) → IsShort (record { numbers = listed_from 0 ns; den = d; bound = least })
tightened ns d b least short l w f = short_of ns d least w short.positive l f

-- numbers that are kept, with more places
pub kept_within : (b : ℤ) (old new : List ℤ) → AreKept old new → StayWithin b old → StayWithin b new
kept_within b old new k h = record { each = λ c. rw (k.each c) (h.each c) }

sum_below : (a b : ℕ) (c d bound : ℤ) → pos a ≤ℤ c → pos b ≤ℤ d → (c +ℤ d) ≤ℤ bound → pos (a + b) ≤ℤ bound
sum_below a b c d bound h k l = omega (arith, ints)

first_below : (a b : ℕ) (bound : ℤ) → pos (a + b) ≤ℤ bound → bound <ℤ pos (2 ^ 63) → a < 2 ^ 63
first_below a b bound h k = omega (arith, ints)

both_below : (a : ℕ) (bound : ℤ) → pos a ≤ℤ bound → bound <ℤ pos (2 ^ 63) → a < 2 ^ 63
both_below a bound h k = omega (arith, ints)

first_within : (a b c bound : ℤ) → a ≤ℤ b → pos 0 ≤ℤ c → (b +ℤ c) ≤ℤ bound → a ≤ℤ bound
first_within a b c bound h k l = omega (arith, ints)

positive_below : (n bound : ℤ) → pos 0 <ℤ n → n ≤ℤ bound → bound <ℤ pos (2 ^ 63) → unsigned_abs n < 2 ^ 63
positive_below n bound p l s = omega (arith, ints)

positive_times : (p : ℤ) (n : ℕ) → pos 0 <ℤ p → p *ℤ pos n ≡ pos (unsigned_abs p * n)
positive_times (pos p) n h = refl
positive_times (negsuc p) n h = absurd (omega (arith, ints))

-- what is known of a row with places for all columns of a lead, before it is taken times p less q times the lead
pub record Ready (p q bound : ℤ) (row : List ℤ) (row_den row_bound : ℤ) (lead : ShortRow) (reached : List ℤ) : Type 0 where
  pub positive : pos 0 <ℤ p
  pub fits : (p *ℤ row_bound +ℤ pos (unsigned_abs q) *ℤ lead.bound) ≤ℤ bound
  pub small : bound <ℤ pos (2 ^ 63)
  pub row_short : IsShort (record { numbers = listed_from 0 row; den = row_den; bound = row_bound })
  pub lead_short : IsShort lead
  pub kept : AreKept row reached

pub ready : (p q bound : ℤ) (row : List ℤ) (row_den row_bound : ℤ) (self lead : ShortRow) (reached : List ℤ) → record { numbers = listed_from 0 row; den = row_den; bound = row_bound } ≡ self → pos 0 <ℤ p
    → (p *ℤ self.bound +ℤ pos (unsigned_abs q) *ℤ lead.bound) ≤ℤ bound → FitsSigned w64 bound → IsShort (record { numbers = listed_from 0 row; den = row_den; bound = row_bound }) → IsShort lead → AreKept row reached → Ready p q bound row row_den row_bound lead reached
ready p q bound row row_den row_bound self lead reached e positive fits small row_short lead_short kept = record {
  positive = positive;
  fits = rw (← e) at fits;
  small = omega (arith, ints, small.sfits);
  row_short = row_short;
  lead_short = lead_short;
  kept = kept;
}

module _ (p q bound : ℤ) (row : List ℤ) (row_den row_bound : ℤ) (lead : ShortRow) (reached : List ℤ) (is : Ready p q bound row row_den row_bound lead reached) where
  row_within : (c : ℕ) → pos (unsigned_abs (placed reached c)) ≤ℤ row_bound
  row_within c = let w = kept_within row_bound row reached is.kept (stay_within row row_den row_bound is.row_short) in w.each c

  lead_positive : pos 0 ≤ℤ lead.bound
  lead_positive = let a = is.lead_short.positive in let b = is.lead_short.den_within in omega (arith, ints)

  row_part : (c : ℕ) → pos (unsigned_abs p * unsigned_abs (placed reached c)) ≤ℤ (p *ℤ row_bound)
  row_part c = rw (← positive_times p (unsigned_abs (placed reached c)) is.positive) (le_mul (pos (unsigned_abs (placed reached c))) row_bound p (row_within c) (let h = is.positive in omega (arith, ints)))

  lead_part : (c : ℕ) → pos (unsigned_abs q * unsigned_abs (whole_at c lead.numbers)) ≤ℤ (pos (unsigned_abs q) *ℤ lead.bound)
  lead_part c = le_mul (pos (unsigned_abs (whole_at c lead.numbers))) lead.bound (pos (unsigned_abs q)) (at_within lead.bound lead.numbers c lead_positive is.lead_short.within) (omega (arith, ints))

  together : (c : ℕ) → pos (unsigned_abs p * unsigned_abs (placed reached c) + unsigned_abs q * unsigned_abs (whole_at c lead.numbers)) ≤ℤ bound
  together c = sum_below _ _ _ _ bound (row_part c) (lead_part c) is.fits

  pub products_fit : ProductsFit p reached
  products_fit = record { each = λ c. first_below _ _ bound (together c) is.small }

  new_den : pos 0 <ℤ (p *ℤ row_den)
  new_den = product_positive p row_den is.positive is.row_short.positive

  den_below : (p *ℤ row_den) ≤ℤ bound
  den_below =
      let a : (p *ℤ row_den) ≤ℤ (p *ℤ row_bound) = le_mul row_den row_bound p is.row_short.den_within (let h = is.positive in omega (arith, ints)) in
      let b : pos 0 ≤ℤ (pos (unsigned_abs q) *ℤ lead.bound) = none_mul (pos (unsigned_abs q)) lead.bound (omega (arith, ints)) lead_positive in
      first_within _ _ _ bound a b is.fits

  pub den_fits : FitsSigned w64 (p *ℤ row_den)
  den_fits = fits_signed_from_abs w64 (p *ℤ row_den) (positive_below (p *ℤ row_den) bound new_den den_below is.small)

  module _ (multiplied : List ℤ) (m : AreMultiplied p reached multiplied) where
    size : (c : ℕ) → unsigned_abs (placed multiplied c) ≡ unsigned_abs p * unsigned_abs (placed reached c)
    size c = ap unsigned_abs (m.each c) ∙ unsigned_abs-mul p (placed reached c)

    pub differences_fit : DifferencesFit q lead.numbers multiplied
    differences_fit = record { each = λ c. rw (size c) (both_below _ bound (together c) is.small) }

    module _ (new : List ℤ) (l : AreLessened q lead.numbers multiplied new) where
      new_within : StayWithin bound new
      new_within = record {
        each = λ c. rw (l.each c) (difference_within (placed multiplied c) (q *ℤ whole_at c lead.numbers) bound (rw (size c, unsigned_abs-mul q (whole_at c lead.numbers)) (together c)));
      }

      pub is_combined : IsCombined p q lead.numbers (listed_from 0 row) (listed_from 0 new)
      is_combined = record { each = λ c. rw (at_listed c new, at_listed c row, l.each c, m.each c, is.kept.each c) refl }

      pub combined_short : IsShort (record { numbers = listed_from 0 new; den = p *ℤ row_den; bound = bound })
      combined_short = short_of new (p *ℤ row_den) bound new_within new_den den_below is.small

-- the numbers of a list in their places
spread_at : (w : ℤ) → pos 0 -ℤ negsuc 0 *ℤ w ≡ w
spread_at w = omega (arith, ints)

once_size : (n : ℕ) → unsigned_abs (negsuc 0) * n ≡ n
once_size n = omega arith

placed_none : (c : ℕ) → placed [] c ≡ pos 0
placed_none c = get_or_past [] c (pos 0) (omega arith)

module _ (few : ShortRow) (short : IsShort few) (reached : List ℤ) (kept : AreKept [] reached) where
  few_within : (c : ℕ) → pos (unsigned_abs (whole_at c few.numbers)) ≤ℤ few.bound
  few_within c = at_within few.bound few.numbers c (let a = short.positive in let b = short.den_within in omega (arith, ints)) short.within

  pub spread_fits : DifferencesFit (negsuc 0) few.numbers reached
  spread_fits = record {
    each = λ c.
        let l = few_within c in
        let s = short.fits in
        let z : placed reached c ≡ pos 0 = kept.each c ∙ placed_none c in
        rw (z, once_size (unsigned_abs (whole_at c few.numbers))) (omega (arith, ints));
  }

  module _ (new : List ℤ) (l : AreLessened (negsuc 0) few.numbers reached new) where
    spread_placed : (c : ℕ) → placed new c ≡ whole_at c few.numbers
    spread_placed c = rw (l.each c, kept.each c, placed_none c) (spread_at (whole_at c few.numbers))

    pub spread_same : (c : ℕ) → whole_at c (listed_from 0 new) ≡ whole_at c few.numbers
    spread_same c = at_listed c new ∙ spread_placed c

    pub spread_short : IsShort (record { numbers = listed_from 0 new; den = few.den; bound = few.bound })
    spread_short = short_of new few.den few.bound (record { each = λ c. rw (spread_placed c) (few_within c) }) short.positive short.den_within short.fits

pub kept_short : (row reached : List ℤ) (d b : ℤ) → IsShort (record { numbers = listed_from 0 row; den = d; bound = b }) → AreKept row reached → IsShort (record { numbers = listed_from 0 reached; den = d; bound = b })
kept_short row reached d b h k = short_of reached d b (kept_within b row reached k (stay_within row d b h)) h.positive h.den_within h.fits

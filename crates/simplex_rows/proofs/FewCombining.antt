-- A row of whole numbers and a lead, put together within the bounds.
use Rattle.std.proofs.Common.{◌≡◌, refl, ℕ, suc, [], ◌∷◌, arith, to_z, of_z, w64, ℤ, pos, ◌<ℤ◌, ◌≤ℤ◌, ◌+ℤ◌, ◌*ℤ◌, unsigned_abs, ◌^◌, true, false, ◌==◌, inl, inr}
use Rattle.std.proofs.lemmas.Int.{ints}
use Rattle.std.proofs.lemmas.Bool.Decides.{nat_tests}
use Rattle.simplex_rows.specs.ShortRows.{Wholes, ShortRow, IsShort, whole_at, AscendsFrom, AreWithin, IsCombined}
use Rattle.simplex_rows.specs.Combining.{CanCombine}
use Rattle.simplex_rows.proofs.Wholes.{number_within, kept_whole, none_before, before_or_from, product_positive, difference_within}
use Rattle.simplex_rows.proofs.FewMerging.{products_within}

-- a row is within what none of its numbers is above
pub within_if_each : (b : ℕ) (m : ℤ) (es : Wholes) → pos 0 ≤ℤ m → AscendsFrom b es → ((c : ℕ) → pos (unsigned_abs (whole_at c es)) ≤ℤ m) → AreWithin m es
within_if_each b m [] z s h = tt
within_if_each b m ((k, n) ∷ es) z s h =
    let here : whole_at k ((k, n) ∷ es) ≡ n = (let t : (k == k) ≡ true = grind (arith, nat_tests) in rw t refl) in (
      rw here at (h k),
      within_if_each (suc k) m es z s.2 (λ c. elim (before_or_from c (suc k)) [
        | inl b ↦ rw (none_before (suc k) c es s.2 b) z
        | inr g ↦ let t : (k == c) ≡ false = grind (arith, nat_tests) in
            let there : whole_at c ((k, n) ∷ es) ≡ whole_at c es = rw t refl in
            rw there at (h c)
      ]),
    )

-- what fits by the bounds
module _ (p q bound : ℤ) (row lead : ShortRow) (row_short : IsShort row) (lead_short : IsShort lead) (positive : pos 0 <ℤ p) (within : (p *ℤ row.bound +ℤ pos (unsigned_abs q) *ℤ lead.bound) ≤ℤ bound) (fits : bound <ℤ pos (2 ^ 63)) where
  pub can_combine : CanCombine p q row.numbers lead.numbers
  can_combine = record {
    row_ascends = row_short.ascends;
    lead_ascends = lead_short.ascends;
    row_bound = row.bound;
    lead_bound = lead.bound;
    row_within = row_short.within;
    lead_within = lead_short.within;
    row_short = row_short.fits;
    lead_short = lead_short.fits;
    row_positive = (let a = row_short.positive in let b = row_short.den_within in omega (arith, ints));
    lead_positive = (let a = lead_short.positive in let b = lead_short.den_within in omega (arith, ints));
    positive = positive;
    fits = omega (arith, ints);
  }

  pub den_positive : pos 0 <ℤ (p *ℤ row.den)
  den_positive = product_positive p row.den positive row_short.positive

  pub den_within : (p *ℤ row.den) ≤ℤ bound
  den_within =
      let a = row_short.positive in
      let b = row_short.den_within in
      let c = lead_short.positive in
      let d = lead_short.den_within in
      let both = products_within p row.den row.bound q (pos 0) lead.bound bound positive (omega (arith, ints)) (omega (arith, ints)) within in
      omega (arith, ints)

  pub den_kept : to_z w64 (of_z w64 (p *ℤ row.den)) ≡ p *ℤ row.den
  den_kept = let a = den_positive in let b = den_within in kept_whole (p *ℤ row.den) (omega (arith, ints))

  pub combined_short : (new : Wholes) → IsCombined p q lead.numbers row.numbers new → AscendsFrom 0 new → IsShort (record { numbers = new; den = p *ℤ row.den; bound = bound })
  combined_short new combined ascends = record {
    ascends = ascends;
    within = (let a = den_positive in let b = den_within in within_if_each 0 bound new (omega (arith, ints)) ascends (λ c. rw (combined.each c)
        (difference_within (p *ℤ whole_at c row.numbers) (q *ℤ whole_at c lead.numbers) bound
        (products_within p (whole_at c row.numbers) row.bound q (whole_at c lead.numbers) lead.bound bound positive (number_within row c row_short) (number_within lead c lead_short) within))));
    positive = den_positive;
    den_within = den_within;
    fits = fits;
  }

-- Short rows as rows of fractions.
use Rattle.std.proofs.Common.{◌≡◌, ◌≢◌, refl, sym, ap, subst, ◌∙◌, ℕ, suc, ◌<◌, ◌^◌, List, [], ◌∷◌, map, ℤ, pos, ◌*ℤ◌, ◌<ℤ◌, unsigned_abs, Bool, true, false, ◌==◌, if◌then◌else◌, arith}
use Rattle.std.proofs.lemmas.Int.{ints}
use Rattle.raml_num.proofs.Signed.{cancelled}
use Rattle.frac128.specs.declared.Frac.{Frac}
use Rattle.frac128.specs.Nought.{nought}
use Rattle.frac128.specs.Values.{numerator, denominator, IsOver}
use Rattle.simplex_rows.specs.Entries.{at, columns_of, SparseFrom, IsSparse, EndsBefore}
use Rattle.simplex_rows.specs.ShortRows.{Wholes, whole_at, AscendsFrom, AreWithin, WholesEndBefore, ShortRow, IsShort, fractions_over, fractions_of}
use Rattle.simplex_rows.specs.Over.{over}
use Rattle.simplex_rows.proofs.Wholes.{number_within}
use Rattle.simplex_rows.proofs.Overs.{over_is}

-- a number and the fraction that it makes
module _ (d : ℤ) (positive : pos 0 <ℤ d) (small : d <ℤ pos (2 ^ 63)) where
  pub is_over : (n : ℤ) → unsigned_abs n < 2 ^ 63 → IsOver n (unsigned_abs d) (over n d)
  is_over n h =
      let e : d ≡ pos (unsigned_abs d) = omega (arith, ints) in
      subst (λ (z : ℤ). numerator (over n d) *ℤ z ≡ n *ℤ pos (denominator (over n d))) e (over_is n d positive (omega arith) (omega (arith, ints)))

  pub not_nought : (n : ℤ) → unsigned_abs n < 2 ^ 63 → n ≢ pos 0 → numerator (over n d) ≢ pos 0
  not_nought n h m e =
      let x : Frac = over n d in
      let i = is_over n h in
      let z : n *ℤ pos (denominator x) ≡ pos 0 = sym i ∙ ap (λ (v : ℤ). v *ℤ pos (unsigned_abs d)) e ∙ omega (arith, ints) in
      m (cancelled (pos (denominator x)) n (pos 0) (let p = x.lowest.positive in λ w. omega (arith, ints)) (omega (arith, ints)))

  -- the fraction at a column
  pub reads : (c b : ℕ) (bound : ℤ) (ns : Wholes) → AreWithin bound ns → bound <ℤ pos (2 ^ 63) → IsOver (whole_at c ns) (unsigned_abs d) (at c (fractions_over d ns))
  reads c b bound [] w h = omega (arith, ints)
  reads c b bound ((k, n) ∷ ns) w h = by (k == c) (reads c b bound ns w.1 h)
    where
      by : (t : Bool) → IsOver (whole_at c ns) (unsigned_abs d) (at c (fractions_over d ns)) → IsOver (if t then n else whole_at c ns) (unsigned_abs d) (if t then over n d else at c (fractions_over d ns))
      by true r = is_over n (let l = w.0 in omega (arith, ints))
      by false r = r

  fractions_ascend : (b : ℕ) (bound : ℤ) (ns : Wholes) → AscendsFrom b ns → AreWithin bound ns → bound <ℤ pos (2 ^ 63) → SparseFrom b (fractions_over d ns)
  fractions_ascend b bound [] a w h = tt
  fractions_ascend b bound ((k, n) ∷ ns) a w h = (a.0, not_nought n (let l = w.0 in omega (arith, ints)) a.1, fractions_ascend (suc k) bound ns a.2 w.1 h)

pub same_columns : (d : ℤ) (ns : Wholes) → columns_of (fractions_over d ns) ≡ map (λ e. e.0) ns
same_columns d [] = refl
same_columns d ((k, n) ∷ ns) = ap (λ (ks : List ℕ). k ∷ ks) (same_columns d ns)

pub ends_too : (c : ℕ) (d : ℤ) (ns : Wholes) → WholesEndBefore c ns → EndsBefore c (fractions_over d ns)
ends_too c d [] e = tt
ends_too c d ((k, n) ∷ ns) e = (e.0, ends_too c d ns e.1)

pub ends_before : (c : ℕ) (d : ℤ) (ns : Wholes) → EndsBefore c (fractions_over d ns) → WholesEndBefore c ns
ends_before c d [] e = tt
ends_before c d ((k, n) ∷ ns) e = (e.0, ends_before c d ns e.1)

-- no number at a column, no fraction there
pub none_there : (c b : ℕ) (d : ℤ) (ns : Wholes) → AscendsFrom b ns → whole_at c ns ≡ pos 0 → at c (fractions_over d ns) ≡ nought
none_there c b d [] a e = refl
none_there c b d ((k, n) ∷ ns) a e = by (k == c) (none_there c (suc k) d ns a.2) e
  where
    by : (t : Bool) → (whole_at c ns ≡ pos 0 → at c (fractions_over d ns) ≡ nought) → (if t then n else whole_at c ns) ≡ pos 0 → (if t then over n d else at c (fractions_over d ns)) ≡ nought
    by true later z = absurd (a.1 z)
    by false later z = later z

-- of a whole row
module _ (row : ShortRow) (is : IsShort row) where
  den_small : row.den <ℤ pos (2 ^ 63)
  den_small = let f = is.fits in let w = is.den_within in omega (arith, ints)

  pub row_sparse : IsSparse (fractions_of row)
  row_sparse = fractions_ascend row.den is.positive den_small 0 row.bound row.numbers is.ascends is.within is.fits

  pub row_reads : (c : ℕ) → IsOver (whole_at c row.numbers) (unsigned_abs row.den) (at c (fractions_of row))
  row_reads c = reads row.den is.positive den_small c 0 row.bound row.numbers is.within is.fits

  pub number_small : (c : ℕ) → unsigned_abs (whole_at c row.numbers) < 2 ^ 63
  number_small c = let w = number_within row c is in let f = is.fits in omega (arith, ints)

  pub den_positive : 0 < unsigned_abs row.den
  den_positive = let p = is.positive in omega (arith, ints)

  pub den_is : pos (unsigned_abs row.den) ≡ row.den
  den_is = let p = is.positive in omega (arith, ints)

  pub den_below : unsigned_abs row.den < 2 ^ 63
  den_below = let p = is.positive in let s = den_small in omega (arith, ints)

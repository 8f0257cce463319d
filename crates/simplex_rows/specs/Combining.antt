-- Two rows of whole numbers, walked together.
use Rattle.std.specs.Prelude.{◌≤◌, ℕ, [], ◌∷◌, ℤ, pos, ◌+ℤ◌, ◌*ℤ◌, ◌<ℤ◌, ◌^◌, ◌-◌, unsigned_abs, if◌then◌else◌, ◌==◌}
use Rattle.simplex_rows.specs.ShortRows.{Wholes, AscendsFrom, AreWithin}

-- p times each number
abbrev pub times : ℤ → Wholes → Wholes
times p [] = []
times p ((k, n) ∷ ns) = (k, p *ℤ n) ∷ times p ns

-- p times each number has 63 bits
abbrev pub TimesFit : ℤ → Wholes → Type 0
TimesFit p ns = AreWithin (pos (2 ^ 63 - 1)) (times p ns)

-- the first number where that is at the column, or 0
abbrev pub first_at : ℕ → Wholes → ℤ
first_at c [] = pos 0
first_at c ((k, n) ∷ ns) = if k == c then n else pos 0

-- the numbers after the first where that is at the column, or all
abbrev pub after : ℕ → Wholes → Wholes
after c [] = []
after c ((k, n) ∷ ns) = if k == c then ns else (k, n) ∷ ns

-- the first column, if there is one, is c or comes after it
abbrev pub WholesStartAt : ℕ → Wholes → Type 0
WholesStartAt c [] = Unit {0}
WholesStartAt c ((k, n) ∷ ns) = c ≤ k

-- p times the numbers of a row less q times those of a lead have 63 bits
pub record CanCombine (p q : ℤ) (row lead : Wholes) : Type 0 where
  pub row_ascends : AscendsFrom 0 row
  pub lead_ascends : AscendsFrom 0 lead
  pub row_bound : ℤ
  pub lead_bound : ℤ
  pub row_within : AreWithin row_bound row
  pub lead_within : AreWithin lead_bound lead
  pub row_short : row_bound <ℤ pos (2 ^ 63)
  pub lead_short : lead_bound <ℤ pos (2 ^ 63)
  pub row_positive : pos 0 <ℤ row_bound
  pub lead_positive : pos 0 <ℤ lead_bound
  pub positive : pos 0 <ℤ p
  pub fits : (p *ℤ row_bound +ℤ pos (unsigned_abs q) *ℤ lead_bound) <ℤ pos (2 ^ 63)

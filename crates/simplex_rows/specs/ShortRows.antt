-- Rows of whole numbers of 63 bits over one denominator.
use Rattle.std.specs.Prelude.{◌≡◌, ◌≢◌, ℕ, suc, ◌≤◌, ◌<◌, ◌^◌, List, [], ◌∷◌, Option, Some, None, ℤ, pos, ◌*ℤ◌, ◌-ℤ◌, ◌<ℤ◌, ◌≤ℤ◌}
use Rattle.std.specs.Prelude.{unsigned_abs, if◌then◌else◌, ◌==◌}
use Rattle.std.specs.Ordering.{int_eq}
use Rattle.simplex_rows.specs.Entries.{Entries}
use Rattle.simplex_rows.specs.Over.{over}

-- the numbers of a row that are not 0, each with its column
abbrev pub Wholes : Type 0
Wholes = List (ℕ × ℤ)

-- the number at a column
abbrev pub whole_at : ℕ → Wholes → ℤ
whole_at c [] = pos 0
whole_at c ((k, n) ∷ ns) = if k == c then n else whole_at c ns

-- the columns ascend from b on, and no number is 0
abbrev pub AscendsFrom : ℕ → Wholes → Type 0
AscendsFrom b [] = Unit {0}
AscendsFrom b ((k, n) ∷ ns) = (b ≤ k) × (n ≢ pos 0) × AscendsFrom (suc k) ns

-- no number is, without its sign, above b
abbrev pub AreWithin : ℤ → Wholes → Type 0
AreWithin b [] = Unit {0}
AreWithin b ((k, n) ∷ ns) = (pos (unsigned_abs n) ≤ℤ b) × AreWithin b ns

-- each column is before c
abbrev pub WholesEndBefore : ℕ → Wholes → Type 0
WholesEndBefore c [] = Unit {0}
WholesEndBefore c ((k, n) ∷ ns) = (k < c) × WholesEndBefore c ns

-- numbers over one denominator, and a bound for them all
pub record ShortRow : Type 0 where
  pub numbers : Wholes
  pub den : ℤ
  pub bound : ℤ

pub record IsShort (row : ShortRow) : Type 0 where
  pub ascends : AscendsFrom 0 row.numbers
  pub within : AreWithin row.bound row.numbers
  pub positive : pos 0 <ℤ row.den
  pub den_within : row.den ≤ℤ row.bound
  pub fits : row.bound <ℤ pos (2 ^ 63)

-- a number and those after it, without it where it is 0
abbrev pub put_whole : ℕ → ℤ → Wholes → Wholes
put_whole c n ns = if int_eq n (pos 0) then ns else (c, n) ∷ ns

-- the numbers in the places of their columns, as a list of those that are not 0
abbrev pub listed_from : ℕ → List ℤ → Wholes
listed_from b [] = []
listed_from b (n ∷ ns) = put_whole b n (listed_from (suc b) ns)

-- the first column from `from` on at which the number is not 0, or None where it is 0 at all of these
abbrev pub IsNextWhole : ℕ → Wholes → Option ℕ → Type 0
IsNextWhole from ns None = (k : ℕ) → from ≤ k → whole_at k ns ≡ pos 0
IsNextWhole from ns (Some c) = (from ≤ c) × (whole_at c ns ≢ pos 0) × ((k : ℕ) → from ≤ k → k < c → whole_at k ns ≡ pos 0)

-- new has p times the numbers of old less q times those of the lead
pub record IsCombined (p q : ℤ) (lead old new : Wholes) : Type 0 where
  pub each : (c : ℕ) → whole_at c new ≡ p *ℤ whole_at c old -ℤ q *ℤ whole_at c lead

-- each number over its denominator is as it was
pub record SameValues (old new : ShortRow) : Type 0 where
  pub each : (c : ℕ) → whole_at c new.numbers *ℤ old.den ≡ whole_at c old.numbers *ℤ new.den

-- new is old over its number at column s
pub record IsOverIts (s : ℕ) (old new : ShortRow) : Type 0 where
  pub each : (c : ℕ) → whole_at c new.numbers *ℤ whole_at s old.numbers ≡ whole_at c old.numbers *ℤ new.den

-- as fractions
abbrev pub fractions_over : ℤ → Wholes → Entries
fractions_over d [] = []
fractions_over d ((k, n) ∷ ns) = (k, over n d) ∷ fractions_over d ns

abbrev pub fractions_of : ShortRow → Entries
fractions_of row = fractions_over row.den row.numbers

-- new is old less the number f at column s times the lead: with h g for f and k g for the lead's denominator it
-- is k times old less h times the lead, over k times the denominator, once old is brought to lower terms
pub record ShortSwept (s : ℕ) (lead old new : ShortRow) : Type 0 where
  pub mid : ShortRow
  pub short : IsShort mid
  pub same : SameValues old mid
  pub own : ℤ
  pub times : ℤ
  pub divisor : ℤ
  pub own_positive : pos 0 <ℤ own
  pub divisor_positive : pos 0 <ℤ divisor
  pub number : whole_at s mid.numbers ≡ times *ℤ divisor
  pub lead_den : lead.den ≡ own *ℤ divisor
  pub combined : IsCombined own times lead.numbers mid.numbers new.numbers
  pub den : new.den ≡ own *ℤ mid.den

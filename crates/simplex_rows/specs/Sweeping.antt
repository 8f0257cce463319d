-- Rows from which a multiple of another one is taken.
use Rattle.std.specs.Prelude.{◌≡◌, ◌≢◌, ℕ, ℤ}
use Rattle.frac128.specs.declared.Frac.{Frac}
use Rattle.frac128.specs.Values.{numerator, denominator}
use Rattle.simplex_rows.specs.Entries.{Entries, at, IsLess, LessLeaves}

-- both have one value, and so, in lowest terms, the same parts
abbrev pub SameParts : Frac → Frac → Type 0
SameParts x y = (numerator x ≡ numerator y) × (denominator x ≡ denominator y)

-- in each column, both rows have the same fraction
abbrev pub SameFractions : Entries → Entries → Type 0
SameFractions old new = (c : ℕ) → SameParts (at c old) (at c new)

-- new is the row less its fraction at column s times the lead
pub record IsSwept (s : ℕ) (lead old new : Entries) : Type 0 where
  pub each : (c : ℕ) → IsLess (at c old) (at s old) (at c lead) (at c new)

-- in the row es, the change at column c leaves the range
pub record SweepLeaves (s c : ℕ) (lead es : Entries) : Type 0 where
  pub leaves : LessLeaves (at c es) (at s es) (at c lead)

-- new has n over 1 at column c, and as old at the others
pub record AddsWhole (c : ℕ) (n : ℤ) (old new : Entries) : Type 0 where
  pub num : numerator (at c new) ≡ n
  pub den : denominator (at c new) ≡ 1
  pub others : (k : ℕ) → k ≢ c → SameParts (at k new) (at k old)

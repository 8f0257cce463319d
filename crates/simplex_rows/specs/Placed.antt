-- Whole numbers in the places of their columns.
use Rattle.std.specs.Prelude.{◌≡◌, ℕ, ◌*◌, ◌<◌, ◌+◌, ◌^◌, List, length, slice_index_or, ℤ, pos, ◌*ℤ◌, ◌-ℤ◌, ◌≤ℤ◌, unsigned_abs}
use Rattle.simplex_rows.specs.ShortRows.{Wholes, whole_at}

-- the number at a place, or 0 past the end
abbrev pub placed : List ℤ → ℕ → ℤ
placed ns c = slice_index_or ns c (pos 0)

-- no number is, without its sign, above b
pub record StayWithin (b : ℤ) (ns : List ℤ) : Type 0 where
  pub each : (c : ℕ) → pos (unsigned_abs (placed ns c)) ≤ℤ b

-- each number is of 63 bits
pub record AreOf63Bits (ns : List ℤ) : Type 0 where
  pub each : (c : ℕ) → unsigned_abs (placed ns c) < 2 ^ 63

-- each product with p is of 63 bits
pub record ProductsFit (p : ℤ) (ns : List ℤ) : Type 0 where
  pub each : (c : ℕ) → unsigned_abs p * unsigned_abs (placed ns c) < 2 ^ 63

-- each difference with q times the lead is of 63 bits
pub record DifferencesFit (q : ℤ) (lead : Wholes) (ns : List ℤ) : Type 0 where
  pub each : (c : ℕ) → unsigned_abs (placed ns c) + unsigned_abs q * unsigned_abs (whole_at c lead) < 2 ^ 63

-- new has as many numbers as old, and p times each
pub record AreMultiplied (p : ℤ) (old new : List ℤ) : Type 0 where
  pub count : length new ≡ length old
  pub each : (c : ℕ) → placed new c ≡ p *ℤ placed old c

-- new has as many numbers as old, and each over k
pub record AreDivided (k : ℤ) (old new : List ℤ) : Type 0 where
  pub count : length new ≡ length old
  pub each : (c : ℕ) → placed new c *ℤ k ≡ placed old c

-- new has as many numbers as old, and each less q times that of the lead
pub record AreLessened (q : ℤ) (lead : Wholes) (old new : List ℤ) : Type 0 where
  pub count : length new ≡ length old
  pub each : (c : ℕ) → placed new c ≡ placed old c -ℤ q *ℤ whole_at c lead

-- new has the numbers of old, and perhaps more places
pub record AreKept (old new : List ℤ) : Type 0 where
  pub each : (c : ℕ) → placed new c ≡ placed old c

-- Lists of fractions that are read from rows.
use Rattle.std.specs.Prelude.{◌≡◌, ℕ, ◌<◌, List, length, ℤ, pos, slice_index_or}
use Rattle.frac128.specs.declared.Frac.{Frac}
use Rattle.frac128.specs.Values.{numerator, denominator}
use Rattle.frac128.specs.Nought.{nought}
use Rattle.simplex_rows.specs.Entries.{Entries, at}
use Rattle.simplex_spec.specs.Places as places
use Rattle.simplex.specs.Among.{Among}
use Rattle.simplex.specs.Standing.{Stands}

abbrev pub frac_at : List Frac → ℕ → Frac
frac_at xs i = slice_index_or xs i nought

abbrev pub column_at : List ℕ → ℕ → ℕ
column_at cs i = slice_index_or cs i 0

-- n fractions with these numerators and denominators
pub record HaveParts (n : ℕ) (num : ℕ → ℤ) (den : ℕ → ℕ) (xs : List Frac) : Type 0 where
  pub count : length xs ≡ n
  pub nums : (i : ℕ) → i < n → numerator (frac_at xs i) ≡ num i
  pub dens : (i : ℕ) → i < n → denominator (frac_at xs i) ≡ den i

-- the row's fractions in the first n columns, by their parts
abbrev pub AreOf : ℕ → Entries → List Frac → Type 0
AreOf n row xs = HaveParts n (λ c. numerator (at c row)) (λ c. denominator (at c row)) xs

-- at these columns new has the row's fractions, where it has a place, and the others are as they were
pub record IsWritten (row : Entries) (cs : List ℕ) (old new : List Frac) : Type 0 where
  pub count : length new ≡ length old
  pub nums : (c : ℕ) → Among c cs → c < length old → numerator (frac_at new c) ≡ numerator (at c row)
  pub dens : (c : ℕ) → Among c cs → c < length old → denominator (frac_at new c) ≡ denominator (at c row)
  pub others : (c : ℕ) → (Among c cs → ⊥) → frac_at new c ≡ frac_at old c

-- no column comes twice
pub record NoneTwice (cs : List ℕ) : Type 0 where
  pub once : (i j : ℕ) → i < length cs → j < length cs → column_at cs i ≡ column_at cs j → i ≡ j

-- n fractions: each of the first k of xs at its column, where that is below n, and 0 at the others
pub record IsSpreadTo (k n : ℕ) (cs : List ℕ) (xs ys : List Frac) : Type 0 where
  pub count : length ys ≡ n
  pub here : (i : ℕ) → i < k → column_at cs i < n → frac_at ys (column_at cs i) ≡ frac_at xs i
  pub elsewhere : (c : ℕ) → c < n → ((i : ℕ) → i < k → column_at cs i ≡ c → ⊥) → numerator (frac_at ys c) ≡ pos 0
  pub whole : (c : ℕ) → c < n → ((i : ℕ) → i < k → column_at cs i ≡ c → ⊥) → denominator (frac_at ys c) ≡ 1

-- the fractions are the numbers ns over d
pub record AreOver (d : ℤ) (ns : List ℤ) (xs : List Frac) : Type 0 where
  pub count : length xs ≡ length ns
  pub each : (i : ℕ) → i < length ns → Stands d (places.at ns i) (frac_at xs i)

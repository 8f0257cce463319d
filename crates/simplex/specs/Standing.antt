-- Rows of fractions that stand for a tableau over whole numbers.
use Rattle.std.specs.Prelude.{◌≡◌, ◌≢◌, ℕ, ◌<◌, List, [], length, ℤ, pos, ◌*ℤ◌, slice_index_or}
use Rattle.frac128.specs.declared.Frac.{Frac}
use Rattle.frac128.specs.Values.{numerator, denominator, IsQuotient}
use Rattle.simplex_rows.specs.Entries.{Entries, at, QuotientLeaves}
use Rattle.simplex_rows.specs.Sweeping.{IsSwept, SweepLeaves}
use Rattle.simplex_spec.specs.Places.{row_at}
use Rattle.simplex_spec.specs.Places as places
use Rattle.simplex_spec.specs.Tableaux.{Tableau}
use Rattle.simplex.specs.Among.{Among, AllDiffer}

-- x is n over d
pub record Stands (d n : ℤ) (x : Frac) : Type 0 where
  pub is : numerator x *ℤ d ≡ n *ℤ pos (denominator x)

-- in each column, the row has the number over d
pub record RowStands (d : ℤ) (ns : List ℤ) (es : Entries) : Type 0 where
  pub each : (c : ℕ) → Stands d (places.at ns c) (at c es)

abbrev pub entries_at : List Entries → ℕ → Entries
entries_at rows i = slice_index_or rows i []

pub record RowsStand (t : Tableau) (rows : List Entries) : Type 0 where
  pub count : length rows ≡ length t.rows
  pub each : (i : ℕ) → i < length t.rows → RowStands t.over (row_at t.rows i) (entries_at rows i)

pub record TableStands (t : Tableau) (rows : List Entries) (gains : Entries) : Type 0 where
  pub rows_stand : RowsStand t rows
  pub gains_stand : RowStands t.over t.gains gains

-- each row but that at l is swept, and that one is the lead
pub record RowsSwept (l s : ℕ) (lead : Entries) (old new : List Entries) : Type 0 where
  pub count : length new ≡ length old
  pub here : entries_at new l ≡ lead
  pub others : (i : ℕ) → i < length old → i ≢ l → IsSwept s lead (entries_at old i) (entries_at new i)

-- the pivot in row l and column s, of the rows and the gains
pub record IsPivoted (l s : ℕ) (rows : List Entries) (gains : Entries) (new : List Entries) (new_gains : Entries) : Type 0 where
  pub lead : Entries
  pub quotients : (c : ℕ) → IsQuotient (at c (entries_at rows l)) (at s (entries_at rows l)) (at c lead)
  pub rows_swept : RowsSwept l s lead rows new
  pub gains_swept : IsSwept s lead gains new_gains

-- the pivot leaves the range in row i and column c, where the gains come after the other rows
pub data PivotLeaves (l s : ℕ) (rows : List Entries) (gains : Entries) (i c : ℕ) : Type 0 where
  InLead : i ≡ l → QuotientLeaves (at c (entries_at rows l)) (at s (entries_at rows l)) → PivotLeaves l s rows gains i c
  InRow : (lead : Entries)
      → ((k : ℕ) → IsQuotient (at k (entries_at rows l)) (at s (entries_at rows l)) (at k lead))
      → i < length rows
      → i ≢ l
      → SweepLeaves s c lead (entries_at rows i)
      → PivotLeaves l s rows gains i c
  InGains : (lead : Entries)
      → ((k : ℕ) → IsQuotient (at k (entries_at rows l)) (at s (entries_at rows l)) (at k lead))
      → i ≡ length rows
      → SweepLeaves s c lead gains
      → PivotLeaves l s rows gains i c

-- these are the rows with a number at column s that is not 0
pub record AreTouching (s : ℕ) (rows : List Entries) (is : List ℕ) : Type 0 where
  pub inside : (i : ℕ) → Among i is → i < length rows
  pub only : (i : ℕ) → Among i is → numerator (at s (entries_at rows i)) ≢ pos 0
  pub all : (i : ℕ) → i < length rows → numerator (at s (entries_at rows i)) ≢ pos 0 → Among i is
  pub differ : AllDiffer is

-- these rows are swept, and the others stay
pub record AmongSwept (among : List ℕ) (s : ℕ) (lead : Entries) (old new : List Entries) : Type 0 where
  pub count : length new ≡ length old
  pub swept : (i : ℕ) → Among i among → IsSwept s lead (entries_at old i) (entries_at new i)
  pub others : (i : ℕ) → (Among i among → ⊥) → entries_at new i ≡ entries_at old i

-- row i has a number at column s that is not 0, and its change at column c leaves the range
pub record RowLeaves (s : ℕ) (lead : Entries) (rows : List Entries) (i c : ℕ) : Type 0 where
  pub inside : i < length rows
  pub touched : numerator (at s (entries_at rows i)) ≢ pos 0
  pub leaves : SweepLeaves s c lead (entries_at rows i)

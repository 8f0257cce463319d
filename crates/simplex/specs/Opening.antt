-- Rows of whole numbers, made column by column.
use Rattle.std.specs.Prelude.{◌≡◌, ◌≢◌, ℕ, ◌+◌, ◌<◌, List, [], length, map, ℤ, pos}
use Rattle.simplex_rows.specs.Entries.{Entries, at, EndsBefore}
use Rattle.simplex_rows.specs.Sweeping.{AddsWhole}
use Rattle.linear_rows.specs.Terms.{Terms, SparseRow, coefficient}
use Rattle.simplex_spec.specs.Places as places
use Rattle.simplex_spec.specs.Refusals.{least_number}
use Rattle.simplex.specs.Standing.{Stands, entries_at}

-- in the columns before j, the row has the numbers ns, and nothing after them
pub record OpensTo (j : ℕ) (ns : List ℤ) (es : Entries) : Type 0 where
  pub before : EndsBefore j es
  pub each : (c : ℕ) → c < j → Stands (pos 1) (places.at ns c) (at c es)

-- the number at column c leaves the range
pub record OpeningLeaves (ns : List ℤ) (c : ℕ) : Type 0 where
  pub is : places.at ns c ≡ least_number

-- n rows without numbers
pub record AreEmpty (n : ℕ) (rows : List Entries) : Type 0 where
  pub count : length rows ≡ n
  pub each : (i : ℕ) → entries_at rows i ≡ []

-- row i has n more, at column c, which is its last
pub record AddsInRow (c i : ℕ) (n : ℤ) (old new : List Entries) : Type 0 where
  pub count : length new ≡ length old
  pub here : AddsWhole c n (entries_at old i) (entries_at new i)
  pub before : EndsBefore (c + 1) (entries_at new i)
  pub others : (k : ℕ) → k ≢ i → entries_at new k ≡ entries_at old k

-- each row has its unknown's number of the terms more, at column c, and where that is 0 it is as it was
pub record AddsColumn (c : ℕ) (terms : Terms) (old new : List Entries) : Type 0 where
  pub count : length new ≡ length old
  pub added : (i : ℕ) → i < length old → AddsWhole c (coefficient i terms) (entries_at old i) (entries_at new i)
  pub before : (i : ℕ) → i < length old → EndsBefore (c + 1) (entries_at new i)
  pub kept : (i : ℕ) → coefficient i terms ≡ pos 0 → entries_at new i ≡ entries_at old i

-- n rows that have, in the columns before j, their unknowns' numbers in the inequalities
pub record ColumnsOpen (j n : ℕ) (inequalities : List SparseRow) (rows : List Entries) : Type 0 where
  pub count : length rows ≡ n
  pub each : (i : ℕ) → i < n → OpensTo j (map (λ row. coefficient i row.terms) inequalities) (entries_at rows i)

-- Rows, some of which may leave 128 bits, and what becomes of them.
use Rattle.std.specs.Prelude.{◌≡◌, ◌<◌, ◌≤◌, ℕ, List, [], ◌∷◌, length, map, slice_get, Option, None, Some}
use Rattle.linear_rows.specs.Terms.{SparseRow}
use Rattle.linear_rows.specs.Systems.{IsBelow}
use Rattle.constraint_gen.specs.declared.fault.GenFault.{GenFault}
use Rattle.constraint_gen.specs.declared.fault.GenFault.TheVariants.{TooLarge, Leaves, NoMemory}
use Rattle.constraint_gen.specs.declared.fault.What.TheVariants.{Rows}

-- the rows that do not leave speak of n unknowns
abbrev pub AreBelow : ℕ → List (Option SparseRow) → Type 0
AreBelow n rows = (k : ℕ) (row : SparseRow) → slice_get rows k ≡ Some (Some row) → IsBelow n row

-- the row at this place leaves, and none before it
pub record FirstNone (rows : List (Option SparseRow)) (place : ℕ) : Type 0 where
  pub there : slice_get rows place ≡ Some None
  pub first : (k : ℕ) → k < place → (row : SparseRow) × (slice_get rows k ≡ Some (Some row))

-- all are there
abbrev pub AllThere : List (Option SparseRow) → Type 0
AllThere rows = (k : ℕ) → k < length rows → (row : SparseRow) × (slice_get rows k ≡ Some (Some row))

-- those that are there
abbrev pub present : List (Option SparseRow) → List SparseRow
present [] = []
present (None ∷ rows) = present rows
present (Some row ∷ rows) = row ∷ present rows

abbrev pub RowFault : List (Option SparseRow) → GenFault → Type 0
RowFault rows (TooLarge Rows) = 2000 < length rows
RowFault rows (Leaves row) = (length rows ≤ 2000) × FirstNone rows row
RowFault rows NoMemory = Unit {0}
RowFault rows _ = ⊥

-- all rows are there
pub record Finished (rows : List (Option SparseRow)) (all : List SparseRow) : Type 0 where
  pub few : length rows ≤ 2000
  pub same : map Some all ≡ rows

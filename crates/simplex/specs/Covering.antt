-- For each column, marks at the blocks of rows that may have a number there: column after column, h places each.
use Rattle.std.specs.Prelude.{◌≡◌, ◌≢◌, ℕ, ◌<◌, ◌≤◌, ◌+◌, ◌*◌, ◌/◌, Bool, true, false, List, map, length, slice_index_or, pos, ◌⊎◌}
use Rattle.std.specs.Int.{div_ceil}
use Rattle.frac128.specs.Values.{numerator}
use Rattle.simplex_rows.specs.Entries.{Entries, at}
use Rattle.simplex.specs.declared.covering.TheConstants.{BLOCK}
use Rattle.simplex.specs.Among.{Among}
use Rattle.simplex.specs.Standing.{entries_at}

-- the block of row i
abbrev pub block_of : ℕ → ℕ
block_of i = i / BLOCK

-- how many blocks n rows make
abbrev pub blocks_of : ℕ → ℕ
blocks_of n = div_ceil n BLOCK

-- place p has a mark
abbrev pub HasMark : List Bool → ℕ → Type 0
HasMark marks p = slice_index_or marks p false ≡ true

-- column c has a mark at block b
abbrev pub IsMarked : ℕ → List Bool → ℕ → ℕ → Type 0
IsMarked h marks c b = HasMark marks (c * h + b)

-- each row with a number in column c is in a block that is marked there
abbrev pub IsCovered : ℕ → List Entries → List Bool → Type 0
IsCovered c rows marks =
    (i : ℕ) → i < length rows → numerator (at c (entries_at rows i)) ≢ pos 0 → IsMarked (blocks_of (length rows)) marks c (block_of i)

-- the marks of n columns: each row with a number in one of them is in a block that is marked there
pub record Cover (n : ℕ) (rows : List Entries) (marks : List Bool) : Type 0 where
  pub places : length marks ≡ n * blocks_of (length rows)
  pub all : (c : ℕ) → c < n → IsCovered c rows marks

-- the place of one of these blocks in one of these columns
pub record IsPlace (h : ℕ) (columns blocks : List ℕ) (p : ℕ) : Type 0 where
  pub column : ℕ
  pub block : ℕ
  pub is : p ≡ column * h + block
  pub in_columns : Among column columns
  pub in_blocks : Among block blocks

-- new has marks at these blocks more, in these columns
pub record Grow (h : ℕ) (columns blocks : List ℕ) (old new : List Bool) : Type 0 where
  pub places : length new ≡ length old
  pub kept : (p : ℕ) → HasMark old p → HasMark new p
  pub has : (c b : ℕ) → c * h + b < length old → Among c columns → Among b blocks → IsMarked h new c b
  pub only : (p : ℕ) → HasMark new p → HasMark old p ⊎ IsPlace h columns blocks p

-- from first on and before end there is no mark, and the others are as they were
pub record Clears (first end : ℕ) (old new : List Bool) : Type 0 where
  pub places : length new ≡ length old
  pub none : (p : ℕ) → first ≤ p → p < end → HasMark new p → ⊥
  pub others : (p : ℕ) → (p < first) ⊎ (end ≤ p) → slice_index_or new p false ≡ slice_index_or old p false

-- column c has one mark, and the others are as they were
pub record HasOne (h c b : ℕ) (old new : List Bool) : Type 0 where
  pub places : length new ≡ length old
  pub here : IsMarked h new c b
  pub alone : (j : ℕ) → j < h → IsMarked h new c j → j ≡ b
  pub others : (p : ℕ) → (p < c * h) ⊎ (c * h + h ≤ p) → slice_index_or new p false ≡ slice_index_or old p false

-- of n rows, new has marks at the blocks of these more in these columns, but for column c, which has one mark, at the block of row i
pub record Follows (n : ℕ) (columns rows : List ℕ) (c i : ℕ) (old new : List Bool) : Type 0 where
  pub grown : List Bool
  pub grow : Grow (blocks_of n) columns (map block_of rows) old grown
  pub one : HasOne (blocks_of n) c (block_of i) grown new

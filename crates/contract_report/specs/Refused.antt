-- Which declared bound is the first that is not decided, and why.
use Rattle.std.specs.Prelude.{◌≡◌, ◌<◌, ℕ, ℤ, suc, List, Option, Some, slice_get}
use Rattle.annot_types.specs.Program.{Program}
use Rattle.annot_types.specs.Certificate.{Block, Certificate}
use Rattle.other_blocks.specs.Other.{IsTried}
use Rattle.bound_file.specs.Lines.{Line}
use Rattle.bound_contract.specs.Decided.{IsOwn}
use Rattle.bound_contract.specs.Places as p
use Rattle.bound_contract.specs.Places.{Place, IsFirst, IsClear}

-- Of a line, there are too many rows, or a number leaves 128 bits.
pub data Excess : Type 0 where
  Rows : Excess
  Number : Excess

abbrev pub excess_at : Place → Excess
excess_at p.TooLarge = Rows
excess_at _ = Number

module _ (N : Program) (c : Certificate) (pick : List ℤ → ℤ → Option ℕ) where
  -- no place comes where the line is decided
  abbrev pub IsLineClear : Line → Type 0
  IsLineClear line = (place : ℕ) (own : Block) → IsOwn N c line place own → IsTried own.body → IsClear N c place own.task line pick

  -- The certificate's own block for the line was tried, and the first place that comes there is one of this excess.
  pub record LineExceeds (line : Line) (excess : Excess) : Type 0 where
    pub place : ℕ
    pub own : Block
    pub is : IsOwn N c line place own
    pub tried : IsTried own.body
    pub at : Place
    pub first : IsFirst N c place own.task line pick at
    pub excess_is : excess_at at ≡ excess

  -- The line of this number, counted from 1, is the first that exceeds; so it does.
  pub record FirstExceeds (lines : List Line) (number : ℕ) (excess : Excess) : Type 0 where
    pub index : ℕ
    pub is : number ≡ suc index
    pub line : Line
    pub there : slice_get lines index ≡ Some line
    pub exceeds : LineExceeds line excess
    pub before : (k : ℕ) (other : Line) → k < index → slice_get lines k ≡ Some other → IsLineClear other

  -- none does
  abbrev pub AllLinesClear : List Line → Type 0
  AllLinesClear lines = (k : ℕ) (line : Line) → slice_get lines k ≡ Some line → IsLineClear line

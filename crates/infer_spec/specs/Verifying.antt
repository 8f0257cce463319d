-- The faults of a certificate that is held and was read: those of the vectors of its refuted blocks, block by block.
use Rattle.std.specs.Prelude.{◌≡◌, ◌<◌, ◌⊎◌, ℕ, List, map, length, slice_get, Option, Some, None}
use Rattle.std.specs.List.{range_with_len}
use Rattle.std.specs.Prelude.{ℤ}
use Rattle.linear_rows.specs.Systems.{LinearSystem}
use Rattle.farkas_check.specs.declared.Verdict.TheVariants.{No, Leaves}
use Rattle.farkas_check.specs.Checks.{IsVerdict, refuting}
use Rattle.annot_types.specs.Program.{Program}
use Rattle.annot_types.specs.Certificate.{Entries, number_at, Refuted, Block, Certificate}
use Rattle.annot_types.specs.Held.{before, scale_for}
use Rattle.annot_types.specs.System.{system, AreRows}
use Rattle.infer_spec.specs.Generator.{What, Generator, limit_of}
use Rattle.infer_spec.specs.Places.{RowLeaves}

pub data Fault : Type 0 where
  TooLarge : What → Fault
  Row : ℕ → Fault
  NotRefuted : Fault
  Refute : ℕ → Fault

-- a number for each row
abbrev pub vector_of : LinearSystem → Entries → List ℤ
vector_of s farkas = map (λ row. number_at row farkas) (range_with_len 0 (length s.rows))

-- no row has a number that leaves 128 bits
abbrev pub NoneLeaves : LinearSystem → Type 0
NoneLeaves s = (place : ℕ) → RowLeaves s.rows place → ⊥

-- The faults of a vector in the order in which they are tried: the limit that its task exceeds, a row of its system, an
-- entry at a number that is no row, and the check, which refuses the vector or leaves 128 bits.
abbrev pub VectorFault : Option What → LinearSystem → Entries → Fault → Type 0
VectorFault limit s farkas (TooLarge what) = limit ≡ Some what
VectorFault limit s farkas (Row place) = (limit ≡ None) × RowLeaves s.rows place
VectorFault limit s farkas NotRefuted = (limit ≡ None) × NoneLeaves s
    × ((AreRows (length s.rows) farkas → ⊥)
    ⊎ (AreRows (length s.rows) farkas × (column : ℕ) × IsVerdict (refuting s (vector_of s farkas)) (No column)))
VectorFault limit s farkas (Refute column) = (limit ≡ None) × NoneLeaves s
    × AreRows (length s.rows) farkas × IsVerdict (refuting s (vector_of s farkas)) (Leaves column)

module _ (P : Program) (G : Generator) (c : Certificate) where
  -- a fault of the refuted block at this place, whose system is that of its task over the blocks before it
  pub record BlockFault (place : ℕ) (fault : Fault) : Type 0 where
    pub block : Block
    pub farkas : Entries
    pub there : slice_get c.blocks place ≡ Some block
    pub refuted : block.body ≡ Refuted farkas
    pub is :
        let system = system P c.degree (before c place) block.task (scale_for c block.task.kind) in
        VectorFault (limit_of G block.task system) system farkas fault

  -- the first refuted block that has a fault has this one
  pub record FirstFault (place : ℕ) (fault : Fault) : Type 0 where
    pub is : BlockFault place fault
    pub first : (i : ℕ) (other : Fault) → i < place → BlockFault i other → ⊥

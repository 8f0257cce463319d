-- When the system of a task is made, and why it is not.
use Rattle.std.specs.Prelude.{◌≡◌, ◌≤◌, ◌<◌, ℕ, true, List, length, slice_get, Some}
use Rattle.std.specs.List.{All}
use Rattle.linear_rows.specs.Terms.{SparseRow}
use Rattle.linear_rows.specs.Systems.{LinearSystem}
use Rattle.cost_free.specs.Task.{Task}
use Rattle.annot_types.specs.Program.{Program, members}
use Rattle.annot_types.specs.Certificate.{Block}
use Rattle.annot_types.specs.Holds.{budget_of}
use Rattle.annot_types.specs.System.{system}
use Rattle.rules_spec.specs.CappedRows.{row_fits}
use Rattle.rules_plan.specs.Within.{FunctionWithin}
use Rattle.constraint_gen.specs.declared.fault.GenFault.{GenFault}
use Rattle.constraint_gen.specs.declared.fault.GenFault.TheVariants.{TooLarge, Leaves, NoMemory}
use Rattle.constraint_gen.specs.declared.fault.What.TheVariants.{Indices, Unknowns, Rows}

-- The contexts and types of the walks of a task's group have at most 2000 indices.
abbrev pub IsWithin : Program → ℕ → Task → Type 0
IsWithin P d task = All (λ f. FunctionWithin 2000 (slice_get P.funs f) (budget_of d task.kind)) (members P task.group)

-- a coefficient or the right side of this row leaves 128 bits, and of no earlier one
pub record LeavesFirst (rows : List SparseRow) (place : ℕ) : Type 0 where
  pub row : SparseRow
  pub there : slice_get rows place ≡ Some row
  pub leaves : row_fits row ≡ true → ⊥
  pub first : (earlier : ℕ) (other : SparseRow) → earlier < place → slice_get rows earlier ≡ Some other → row_fits other ≡ true

-- It is the system of the task, and all numbers of it fit.
pub record IsMade (P : Program) (d : ℕ) (earlier : List Block) (task : Task) (scale : ℕ) (made : LinearSystem) : Type 0 where
  pub is : made ≡ system P d earlier task scale
  pub indices : IsWithin P d task
  pub unknowns : made.unknowns ≤ 2000
  pub rows : length made.rows ≤ 2000
  pub fit : All (λ row. row_fits row ≡ true) made.rows

-- why there is none, in the order in which it is tried
abbrev pub IsCause : Program → ℕ → List Block → Task → ℕ → GenFault → Type 0
IsCause P d earlier task scale (TooLarge Indices) = IsWithin P d task → ⊥
IsCause P d earlier task scale (TooLarge Unknowns) = let s = system P d earlier task scale in IsWithin P d task × (2000 < s.unknowns)
IsCause P d earlier task scale (TooLarge Rows) =
    let s = system P d earlier task scale in IsWithin P d task × (s.unknowns ≤ 2000) × (2000 < length s.rows)
IsCause P d earlier task scale (Leaves row) =
    let s = system P d earlier task scale in IsWithin P d task × (s.unknowns ≤ 2000) × (length s.rows ≤ 2000) × LeavesFirst s.rows row
IsCause P d earlier task scale NoMemory = Unit {0}

-- A system by its rows.
use Rattle.std.specs.Prelude.{◌≡◌, ◌<◌, ◌≤◌, ℕ, ◌-◌, ℤ, pos, true, List, ◌++◌, length, replicate}
use Rattle.std.specs.List.{All}
use Rattle.linear_rows.specs.Terms.{SparseRow}
use Rattle.linear_rows.specs.Systems.{LinearSystem}
use Rattle.rules_spec.specs.Kinds.{forms, unknown}
use Rattle.rules_spec.specs.Tasks.{Job, unknowns, given_conditions}
use Rattle.rules_spec.specs.Solving.{rows_of}
use Rattle.rules_spec.specs.Sure.{AreSure}
use Rattle.rules_spec.specs.CappedRows.{row_fits}
use Rattle.constraint_gen.specs.Cause.{LeavesFirst}
use Rattle.constraint_gen.specs.declared.fault.GenFault.{GenFault}
use Rattle.constraint_gen.specs.declared.fault.GenFault.TheVariants.{TooLarge, Leaves, NoMemory}
use Rattle.constraint_gen.specs.declared.fault.What.TheVariants.{Indices, Unknowns, Rows}

-- weights of signatures, and 0 for all other unknowns
abbrev pub filled : ℕ → List ℤ → List ℤ
filled n weights = weights ++ replicate (n - length weights) (pos 0)

pub record HasRows (n : ℕ) (rows : List SparseRow) (weights : List ℤ) (made : LinearSystem) : Type 0 where
  pub unknowns : made.unknowns ≡ n
  pub rows_are : made.rows ≡ rows
  pub weights_are : made.weights ≡ filled n weights
  pub few : length made.rows ≤ 2000
  pub fit : All (λ row. row_fits row ≡ true) made.rows

abbrev pub RowCause : List SparseRow → GenFault → Type 0
RowCause rows (TooLarge Rows) = 2000 < length rows
RowCause rows (Leaves row) = (length rows ≤ 2000) × LeavesFirst rows row
RowCause rows NoMemory = Unit {0}
RowCause rows _ = ⊥

-- plans are wanting where they are not within the limit
abbrev pub PlanCause : Type 0 → GenFault → Type 0
PlanCause within (TooLarge Indices) = within → ⊥
PlanCause within NoMemory = Unit {0}
PlanCause within _ = ⊥

-- the rows of a job
abbrev pub job_rows : Job → List SparseRow
job_rows j = rows_of (unknowns j) (given_conditions forms unknown j)

pub record JobMade (j : Job) (weights : List ℤ) (made : LinearSystem) : Type 0 where
  pub few : unknowns j ≤ 2000
  pub has : HasRows (unknowns j) (job_rows j) weights made

-- Its rows are sure, and it has at least as many unknowns as bodies and as weights.
pub record IsProper (j : Job) (weights : List ℤ) : Type 0 where
  pub sure : AreSure (given_conditions forms unknown j)
  pub few_bodies : length j.bodies ≤ unknowns j
  pub few_weights : length weights ≤ unknowns j

-- why a job has no system
abbrev pub JobCause : Job → GenFault → Type 0
JobCause j (TooLarge Unknowns) = 2000 < unknowns j
JobCause j (TooLarge Rows) = (unknowns j ≤ 2000) × (2000 < length (job_rows j))
JobCause j (Leaves row) = (unknowns j ≤ 2000) × (length (job_rows j) ≤ 2000) × LeavesFirst (job_rows j) row
JobCause j NoMemory = Unit {0}
JobCause j _ = ⊥

-- What is seen of a task on which no place comes.
use Rattle.std.specs.Prelude.{◌≡◌, ℕ, ℤ, pos, List, map, slice_get, Some, None}
use Rattle.linear_rows.specs.Terms.{SparseRow}
use Rattle.linear_rows.specs.Systems.{IsSystem}
use Rattle.farkas_check.specs.Checks.{IsVerdict, refuting, proving_least}
use Rattle.farkas_check.specs.declared.Verdict.TheVariants.{Leaves}
use Rattle.simplex_spec.specs.Courses.{Refuses}
use Rattle.cost_free.specs.Task.{Task}
use Rattle.infer_spec.specs.States.{State}
use Rattle.infer_spec.specs.Generator.{What, Analysis, blocker_at, limit_at, system_at}
use Rattle.simplex_integers.specs.Reading.{ReadsSolution, Read, BothAreFine, VectorIsFine, ArePassed, IsPassed}
use Rattle.simplex_integers.specs.Wholes.{ScaleLeaves}
use Rattle.infer_spec.specs.Places.{TooLarge, Row, Solve, Scale, Refute, Least, Rescale, RowFits, RowLeaves, RescaleLeaves, rule_of}
use Rattle.infer_spec.specs.Places.{IsPlace, IsClear}

module _ (A : Analysis) (st : State) (task : Task) where
  -- no limit is exceeded, and every row fits
  pub record RowsAreFine : Type 0 where
    pub system : IsSystem (system_at A st task)
    pub limit : limit_at A st task ≡ None
    pub fit : (place : ℕ) (row : SparseRow) → slice_get (system_at A st task).rows place ≡ Some row → RowFits row

  -- the solution passes with the dual numbers, and what is raised fits
  pub record IsSolvedFine (t : ℕ) (x : List ℕ) : Type 0 where
    pub solution : ReadsSolution (rule_of A) (system_at A st task) t x
    pub over : ℕ
    pub primal : List ℕ
    pub dual : List ℕ
    pub fine : BothAreFine (rule_of A) (system_at A st task) over primal dual
    pub passed : ArePassed (system_at A st task) over primal dual
    pub raises : (place : ℕ) → RescaleLeaves task.kind t st place → ⊥

  -- Where a place is seen, and all that is tried before it was fine, it comes first.
  pub record PlacesAreFirst : Type 0 where
    pub too_large : (what : What) → limit_at A st task ≡ Some what → IsPlace A st task (TooLarge what)
    pub row : limit_at A st task ≡ None → (place : ℕ) → RowLeaves (system_at A st task).rows place → IsPlace A st task (Row place)
    pub solve : RowsAreFine → (pivots : List (ℕ × ℕ)) (row column : ℕ) → Refuses (rule_of A) (system_at A st task) pivots row column →
        IsPlace A st task (Solve pivots row column)
    pub scale : RowsAreFine → (d : ℤ) (ns : List ℤ) → Read (rule_of A) (system_at A st task) d ns → (entry : ℕ) → ScaleLeaves d ns entry →
        IsPlace A st task (Scale entry)
    pub refute : RowsAreFine → (y : List ℕ) → VectorIsFine (rule_of A) (system_at A st task) y → (column : ℕ) →
        IsVerdict (refuting (system_at A st task) (map pos y)) (Leaves column) → IsPlace A st task (Refute column)
    pub least : RowsAreFine → (t : ℕ) (x y : List ℕ) → BothAreFine (rule_of A) (system_at A st task) t x y → (column : ℕ) →
        IsVerdict (proving_least (system_at A st task) (map pos x) (map pos y) (pos t)) (Leaves column) → IsPlace A st task (Least column)
    pub rescale : RowsAreFine → (u : ℕ) (z y : List ℕ) →
        BothAreFine (rule_of A) (system_at A st task) u z y → ArePassed (system_at A st task) u z y →
        (t : ℕ) (x : List ℕ) → ReadsSolution (rule_of A) (system_at A st task) t x → (place : ℕ) → RescaleLeaves task.kind t st place →
        IsPlace A st task (Rescale place)

-- Where all is fine, no place comes on the task.
pub record FineIsClear : Type 0 where
  pub solved : (A : Analysis) (st : State) (task : Task) (t : ℕ) (x : List ℕ) →
      RowsAreFine A st task → IsSolvedFine A st task t x → IsClear A st task
  pub refuted : (A : Analysis) (st : State) (task : Task) (y : List ℕ) → RowsAreFine A st task →
      VectorIsFine (rule_of A) (system_at A st task) y → IsPassed (system_at A st task) y → IsClear A st task

abbrev pub SeenIsFirst : Type 0
SeenIsFirst = (A : Analysis) (st : State) (task : Task) → blocker_at A st task ≡ None → PlacesAreFirst A st task

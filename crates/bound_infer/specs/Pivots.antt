-- How many pivots an analysis takes, and where a budget of them does not suffice.
use Rattle.std.specs.Prelude.{◌≡◌, ℕ, ◌+◌, ◌-◌, List, [], ◌∷◌, Option, Some, None}
use Rattle.std.specs.Option.{option_map}
use Rattle.cost_free.specs.Task.{Task}
use Rattle.infer_spec.specs.States.{State, start}
use Rattle.infer_spec.specs.Generator.{Analysis, next_at, IsRefusedAt, blocker_at, system_at}
use Rattle.infer_spec.specs.Places.{rule_of}
use Rattle.infer_spec.specs.Clear.{RowsAreFine}
use Rattle.infer_spec.specs.Courses.{Finding, Step, IsOver}
use Rattle.simplex.specs.Solving.{CutsBy, UpTo}
use Rattle.simplex_checked.specs.Limits.{EndsAfter}

-- The task takes so many pivots: none where it waits for a function, and else those to the end of its system's course.
pub data Takes (A : Analysis) (st : State) (task : Task) (n : ℕ) : Type 0 where
  Waiting : (fun : ℕ) → blocker_at A st task ≡ Some fun → n ≡ 0 → Takes A st task n
  Solving : blocker_at A st task ≡ None → EndsAfter (rule_of A) (system_at A st task) n → Takes A st task n

-- the next task does
pub record NextTakes (A : Analysis) (st : State) (n : ℕ) : Type 0 where
  pub task : Task
  pub is_next : next_at A st ≡ Some task
  pub takes : Takes A st task n

-- The next task is tried, and its system is not at its end after as many pivots as the limit.
pub record IsCutShort (A : Analysis) (most : Option ℕ) (st : State) : Type 0 where
  pub task : Task
  pub is_next : next_at A st ≡ Some task
  pub goes_on : IsRefusedAt A st → ⊥
  pub tried : blocker_at A st task ≡ None
  pub fine : RowsAreFine A st task
  pub cut : CutsBy (rule_of A) (system_at A st task) most

-- these findings, the newest first, lead from the start to the state with so many pivots in all
abbrev pub CourseTakes : Analysis → List Finding → State → ℕ → Type 0
CourseTakes A [] st n = (st ≡ start) × (n ≡ 0)
CourseTakes A (f ∷ fs) st n =
    (old : State) × (before : ℕ) × (last : ℕ) × CourseTakes A fs old before × Step A old f st × NextTakes A old last × (n ≡ before + last)

-- some do
pub record ReachedWith (A : Analysis) (st : State) (n : ℕ) : Type 0 where
  pub findings : List Finding
  pub course : CourseTakes A findings st n

-- what is left of a budget, if there is one, after so many pivots
abbrev pub left : Option ℕ → ℕ → Option ℕ
left budget n = option_map (λ b. b - n) budget

-- The course ends, with no more pivots in all than the budget.
pub record EndsWithin (A : Analysis) (budget : Option ℕ) : Type 0 where
  pub state : State
  pub used : ℕ
  pub reached : ReachedWith A state used
  pub over : IsOver A state
  pub within : UpTo budget used

-- The course comes to a task, and what is left of the budget does not bring that to its end.
pub record IsGivenUp (A : Analysis) (budget : Option ℕ) : Type 0 where
  pub state : State
  pub used : ℕ
  pub reached : ReachedWith A state used
  pub within : UpTo budget used
  pub cut : IsCutShort A (left budget used) state

-- The course of an analysis: from task to task by the schedule, as long as no place comes.
use Rattle.std.specs.Prelude.{◌≡◌, ◌⊎◌, ℕ, List, [], ◌∷◌, filter, slice_get, Some, None}
use Rattle.cost_free.specs.Task.{Free, Task}
use Rattle.cost_free.specs.Refused.{has_more}
use Rattle.annot_types.specs.Program.{members, results}
use Rattle.annot_types.specs.Certificate.{Refuted, Calls, Certificate}
use Rattle.infer_spec.specs.States.{State, start, raise, with_block, certificate_of}
use Rattle.infer_spec.specs.Generator.{Indices, Analysis, most_allowed, next_at, IsRefusedAt, blocker_at, system_at, body_at}
use Rattle.simplex_integers.specs.Reading.{ReadsSolution, ReadsVector}
use Rattle.infer_spec.specs.Listed.{listed}
use Rattle.infer_spec.specs.Places.{Place, TooLarge, rule_of, IsPlace, IsClear}

-- How a task came out: it waits for a function that has no bound, it has a solution over a number, or a vector refutes it.
pub data Finding : Type 0 where
  Waits : ℕ → Finding
  Has : ℕ → List ℕ → Finding
  HasNone : List ℕ → Finding

module _ (A : Analysis) where
  -- the state after a task that came out so
  abbrev pub after : Task → Finding → State → State
  after task (Waits fun) st = with_block task (Calls fun) st
  after task (Has t x) st = with_block task (body_at A st task x) (raise task.kind t st)
  after task (HasNone y) st = with_block task (Refuted (listed 0 y)) st

  -- the task comes out so
  abbrev pub ComesOut : State → Task → Finding → Type 0
  ComesOut st task (Waits fun) = blocker_at A st task ≡ Some fun
  ComesOut st task (Has t x) = (blocker_at A st task ≡ None) × ReadsSolution (rule_of A) (system_at A st task) t x
  ComesOut st task (HasNone y) = (blocker_at A st task ≡ None) × ReadsVector (rule_of A) (system_at A st task) y

  -- The schedule goes on to the next task, on which no place comes; and this is the state after it.
  pub record Step (st : State) (finding : Finding) (new : State) : Type 0 where
    pub task : Task
    pub is_next : next_at A st ≡ Some task
    pub goes_on : IsRefusedAt A st → ⊥
    pub clear : IsClear A st task
    pub comes : ComesOut st task finding
    pub is : new ≡ after task finding st

  -- these findings, the newest first, lead from the start to the state
  abbrev pub Course : List Finding → State → Type 0
  Course [] st = st ≡ start
  Course (f ∷ fs) st = (old : State) × Course fs old × Step old f st

  -- the schedule is at its end
  abbrev pub IsOver : State → Type 0
  IsOver st = next_at A st ≡ None

  -- the place comes first on the next task
  pub record OnTask (st : State) (task : Task) (p : Place) : Type 0 where
    pub is_next : next_at A st ≡ Some task
    pub goes_on : IsRefusedAt A st → ⊥
    pub place : IsPlace A st task p

  -- those of some functions whose results have too many indices
  abbrev pub large_of : List ℕ → List ℕ
  large_of funs = filter (λ fun. has_more most_allowed A.degree (slice_get (results A.program) fun)) funs

  -- The schedule does not go on. The task that is named is that of the full budget and of target 0, for the first
  -- function of the group whose result has too many indices.
  pub record OnGroup (st : State) (task : Task) (p : Place) : Type 0 where
    pub refused : IsRefusedAt A st
    pub fun : ℕ
    pub first : slice_get (large_of (members A.program refused.task.group)) 0 ≡ Some fun
    pub is : task ≡ record { group = refused.task.group; kind = Free A.degree fun 0 }
    pub place : p ≡ TooLarge Indices

  -- The course comes to this place on this task.
  pub record StopsAt (st : State) (task : Task) (p : Place) : Type 0 where
    pub findings : List Finding
    pub course : Course findings st
    pub stops : OnTask st task p ⊎ OnGroup st task p

  -- The course ends so, and this is its certificate.
  pub record EndsAt (c : Certificate) : Type 0 where
    pub findings : List Finding
    pub state : State
    pub course : Course findings state
    pub over : IsOver state
    pub is : c ≡ certificate_of A.degree A.work state

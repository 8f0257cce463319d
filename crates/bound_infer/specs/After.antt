-- What a step, and a run of steps, come to.
use Rattle.std.specs.Prelude.{◌≡◌, ◌⊎◌, ℕ, List, Option, Some, None}
use Rattle.cost_free.specs.Task.{Task}
use Rattle.cost_free.specs.Read.{task_of}
use Rattle.infer_spec.specs.States.{State, certificate_of}
use Rattle.infer_spec.specs.Generator.{Analysis, next_at, IsRefusedAt}
use Rattle.infer_spec.specs.Places as p
use Rattle.infer_spec.specs.Places.{Place, IsPlace}
use Rattle.infer_spec.specs.Courses.{Finding, Step, Course, IsOver, OnTask, OnGroup, StopsAt, EndsAt}
use Rattle.simplex.specs.Solving.{UpTo}
use Rattle.bound_infer.specs.Pivots.{NextTakes, IsCutShort}
use Rattle.bound_infer.specs.Told.{told_of, what_of}
use Rattle.bound_infer.specs.declared.progress.Progress.{Progress}
use Rattle.bound_infer.specs.declared.progress.Progress.TheVariants.{Advanced, Ended, Cut}
use Rattle.bound_infer.specs.declared.refusal.InferFault.{InferFault}
use Rattle.bound_infer.specs.declared.refusal.InferFault.TheVariants as i

-- one more task is carried through
abbrev pub OneMore : Analysis → State → State → Type 0
OneMore A old new = (finding : Finding) × Step A old finding new

-- One more task, with so many pivots, no more than the limit; or the end; or a task that takes more. Nothing changes but by a task.
abbrev pub IsAfter : Analysis → Option ℕ → State → State → Progress → Type 0
IsAfter A most old new (Advanced pivots) = OneMore A old new × NextTakes A old pivots × UpTo most pivots
IsAfter A most old new Ended = IsOver A new × (new ≡ old)
IsAfter A most old new Cut = IsCutShort A most new × (new ≡ old)

-- a course leads to the state
pub record Reached (A : Analysis) (st : State) : Type 0 where
  pub findings : List Finding
  pub course : Course A findings st

-- and the schedule goes on to this task
pub record IsAtHand (A : Analysis) (st : State) (task : Task) : Type 0 where
  pub reached : Reached A st
  pub is_next : next_at A st ≡ Some task
  pub goes_on : IsRefusedAt A st → ⊥

abbrev pub Ends : Analysis → State → Type 0
Ends A st = EndsAt A (certificate_of A.degree A.work st)

-- the course comes to the task and the place that are told
abbrev pub ComesTo : Analysis → Option (Task × Place) → Type 0
ComesTo A None = Unit {0}
ComesTo A (Some told) = (st : State) × StopsAt A st told.0 told.1

-- The task and the place that are told are this task and the place that comes first on it; no other place is told of a task.
abbrev pub IsPlaceOf : Analysis → State → Task → Option (Task × Place) → Type 0
IsPlaceOf A st task None = ⊥
IsPlaceOf A st task (Some told) = (told.0 ≡ task) × IsPlace A st task told.1

-- why a task is not carried through
abbrev pub StopsOn : Analysis → State → Task → InferFault → Type 0
StopsOn A st task (i.TooLarge told what) = IsPlaceOf A st task (Some (task_of told, p.TooLarge (what_of what)))
StopsOn A st task (i.Leaves at) = IsPlaceOf A st task (told_of at)
StopsOn A st task i.NoMemory = Unit {0}

-- the analysis stops in this state at the task and the place that are told
abbrev pub StopsThere : Analysis → State → Option (Task × Place) → Type 0
StopsThere A st None = ⊥
StopsThere A st (Some told) = OnTask A st told.0 told.1 ⊎ OnGroup A st told.0 told.1

-- why it does
abbrev pub StopsIn : Analysis → State → InferFault → Type 0
StopsIn A st (i.TooLarge told what) = StopsThere A st (Some (task_of told, p.TooLarge (what_of what)))
StopsIn A st (i.Leaves at) = StopsThere A st (told_of at)
StopsIn A st i.NoMemory = Unit {0}

-- What a task comes to.
use Rattle.std.specs.Prelude.{◌≡◌, ℕ, ℤ, pos, unsigned_abs, List, map, Option, Some}
use Rattle.linear_rows.specs.Systems.{LinearSystem}
use Rattle.cost_free.specs.Task.{Task}
use Rattle.annot_types.specs.Certificate.{Certificate}
use Rattle.annot_types.specs.Program.{Program}
use Rattle.infer_spec.specs.States.{State}
use Rattle.infer_spec.specs.Generator.{Indices, Analysis, system_at}
use Rattle.infer_spec.specs.Places.{rule_of, RescaleLeaves}
use Rattle.infer_spec.specs.Clear.{RowsAreFine}
use Rattle.simplex_checked.specs.Answers.{IsAnswer, IsSolution, IsVector}
use Rattle.simplex_checked.specs.Limits.{IsWithin}
use Rattle.simplex_checked.specs.declared.answer.Answer.{Answer}
use Rattle.simplex_checked.specs.declared.answer.Within.{Within}
use Rattle.cert_check.specs.Fault as f
use Rattle.cert_check.specs.Finds.{FirstFault}
use Rattle.cert_check.specs.Laws.{IsLeaving}
use Rattle.cost_free.specs.Read.{task_of}
use Rattle.bound_infer.specs.Told.{what_of}
use Rattle.bound_infer.specs.declared.leaves.LeavesAt.{LeavesAt}
use Rattle.bound_infer.specs.declared.leaves.LeavesAt.TheVariants.{Rescale, Check}
use Rattle.bound_infer.specs.declared.refusal.InferFault.{InferFault}
use Rattle.bound_infer.specs.declared.refusal.InferFault.TheVariants as i

-- it is the system of the task, within its limits and with rows that fit
pub record HasSystem (A : Analysis) (st : State) (task : Task) (s : LinearSystem) : Type 0 where
  pub is : s ≡ system_at A st task
  pub fine : RowsAreFine A st task

-- such a system has this answer
pub record HasAnswer (A : Analysis) (st : State) (task : Task) (answer : Answer) : Type 0 where
  pub fine : RowsAreFine A st task
  pub is : IsAnswer (rule_of A) (system_at A st task) answer

-- or with a limit of pivots it has this
pub record HasWithin (A : Analysis) (st : State) (task : Task) (most : Option ℕ) (within : Within) : Type 0 where
  pub fine : RowsAreFine A st task
  pub is : IsWithin (rule_of A) (system_at A st task) most within

-- the denominator and the numbers are those of its solution
pub record HasSolution (A : Analysis) (st : State) (task : Task) (denominator : ℤ) (numbers : List ℤ) : Type 0 where
  pub fine : RowsAreFine A st task
  pub solution : IsSolution (rule_of A) (system_at A st task) (unsigned_abs denominator) (map unsigned_abs numbers)

-- the numbers are those of a vector that refutes it
pub record HasVector (A : Analysis) (st : State) (task : Task) (numbers : List ℤ) : Type 0 where
  pub fine : RowsAreFine A st task
  pub natural : numbers ≡ map pos (map unsigned_abs numbers)
  pub vector : IsVector (rule_of A) (system_at A st task) (map unsigned_abs numbers)

-- where what is raised for a task leaves
abbrev pub RaiseCause : Task → ℕ → State → InferFault → Type 0
RaiseCause task t st (i.Leaves (Rescale told block)) = (task_of told ≡ task) × RescaleLeaves task.kind t st block
RaiseCause task t st (i.Leaves at) = ⊥
RaiseCause task t st (i.TooLarge told what) = ⊥
RaiseCause task t st i.NoMemory = Unit {0}

-- where a total of a certificate leaves
abbrev pub CheckCause : Program → Certificate → InferFault → Type 0
CheckCause P c (i.Leaves (Check block path index)) = FirstFault P c (Some (f.Leaves block path.items index))
CheckCause P c (i.Leaves at) = ⊥
CheckCause P c (i.TooLarge told what) = ⊥
CheckCause P c i.NoMemory = Unit {0}

-- the task that is told where the schedule does not go on
abbrev pub IsRefusal : Option Task → InferFault → Type 0
IsRefusal large (i.TooLarge told what) = (large ≡ Some (task_of told)) × (what_of what ≡ Indices)
IsRefusal large (i.Leaves at) = ⊥
IsRefusal large i.NoMemory = Unit {0}

-- a fault that is found is a total that leaves
abbrev pub LeavesAlone : Option f.Fault → Type 0
LeavesAlone found = (fault : f.Fault) → found ≡ Some fault → IsLeaving fault

-- it is what is found
abbrev pub IsCheckFault : Option f.Fault → InferFault → Type 0
IsCheckFault found (i.Leaves (Check block path index)) = found ≡ Some (f.Leaves block path.items index)
IsCheckFault found (i.Leaves at) = ⊥
IsCheckFault found (i.TooLarge told what) = ⊥
IsCheckFault found i.NoMemory = Unit {0}

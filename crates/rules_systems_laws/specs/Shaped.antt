-- The next task of the schedule, over blocks of the right shape.
use Rattle.std.specs.Prelude.{◌≡◌, ◌≤◌, ℕ, Bool, true, List, length, map, slice_get, None, Some}
use Rattle.normal_spec.specs.Norm.{NormFun}
use Rattle.cost_free.specs.Task as k
use Rattle.cost_free.specs.Task.{Kind, Free, Task, Outcome}
use Rattle.cost_free.specs.Target.{Target, degree_of, targets}
use Rattle.cost_free.specs.Blocked.{is_among}
use Rattle.annot_types.specs.Program.{Program, members, next_task, blocker_of}
use Rattle.annot_types.specs.Certificate.{Block, sigs_of, outcome}
use Rattle.annot_types.specs.Held.{IfSolved}
use Rattle.rules_spec.specs.Systems.{IsTask}
use Rattle.rules_systems_laws.specs.Laws.{IsNumbered}
use Rattle.rules_systems_laws.specs.Ordered.{IsOrdered}

-- The function is of the group, the budget is at most d, and the number is that of a target of the function, whose
-- degree is at most the budget.
pub record IsOfTarget (P : Program) (d group budget f number : ℕ) : Type 0 where
  pub member : is_among f (members P group) ≡ true
  pub budget_fits : budget ≤ d
  pub target : (g : NormFun) → slice_get P.funs f ≡ Some g → (t : Target)
      × (slice_get (targets g.result d) number ≡ Some t) × (degree_of t ≤ budget)

abbrev pub HasNumber : Program → ℕ → ℕ → Kind → Type 0
HasNumber P d group (Free budget f number) = IsOfTarget P d group budget f number
HasNumber P d group (k.With meter) = Unit {0}

-- The next task of the schedule has the number of a target, where it is cost-free.
abbrev pub TargetsAreNumbered : Type 0
TargetsAreNumbered =
    (P : Program) (d : ℕ) (work : Bool) (done : List Outcome) (task : Task) →
    next_task P d work done ≡ Some task →
    HasNumber P d task.group task.kind

-- a solved block has one signature for each function of its group
abbrev pub IsSigned : Program → Block → Type 0
IsSigned P block = IfSolved block.body (length (sigs_of block.body) ≡ length (members P block.task.group))

abbrev pub AreSigned : Program → List Block → Type 0
AreSigned P earlier = (place : ℕ) (block : Block) → slice_get earlier place ≡ Some block → IsSigned P block

-- What the system of a task asks for is there where the task is the next one after these blocks, and waits for no
-- function: its functions, its target, and a signature with cost for each function that is called from outside of its
-- group. It is not asked that the blocks hold.
abbrev pub ShapedAreTasks : Type 0
ShapedAreTasks =
    (P : Program) (d : ℕ) (work : Bool) (earlier : List Block) (task : Task) (scale : ℕ) →
    IsOrdered P →
    AreSigned P earlier →
    next_task P d work (map outcome earlier) ≡ Some task →
    blocker_of P task (map outcome earlier) ≡ None →
    IsTask P d earlier task scale × IsNumbered P d task.kind

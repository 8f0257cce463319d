-- The systems of tasks, by the walks over plans.
use Rattle.std.specs.Prelude.{◌≡◌, ℕ, ◌+◌, ◌*◌, pos, ◌-ℤ◌, nat_eq, false, List, [], ◌∷◌, slice_get, None, Some}
use Rattle.std.specs.List.{list_any}
use Rattle.normal_spec.specs.Norm.{NormFun}
use Rattle.normal_spec.specs.Uses.{Uses}
use Rattle.cost_free.specs.Task as k
use Rattle.cost_free.specs.Task.{Task, Kind, Free}
use Rattle.annot_types.specs.Program.{Program, members, called_in}
use Rattle.annot_types.specs.Certificate.{Sig, Block}
use Rattle.annot_types.specs.Signature.{cost_sig}
use Rattle.annot_types.specs.Rules.{Mode, With, Setting}
use Rattle.annot_types.specs.Holds.{mode_of}
use Rattle.annot_types.specs.Rows.{Assignment, Row}
use Rattle.annot_types.specs.System.{unsigned, system}
use Rattle.rules_spec.specs.Numbers.{Numbers, Condition}
use Rattle.rules_spec.specs.Planned.{place_in}
use Rattle.rules_spec.specs.Solving.{system_of}
use Rattle.rules_spec.specs.Jobs.{job_of}

-- a sum of unknowns, at numbers for these, and of a number, less the prices that were taken from it
pub record Sum : Type 0 where
  pub has : ℕ
  pub plus : ℕ
  pub minus : ℕ

abbrev pub sums : Numbers Sum
sums = record {
  none = record { has = 0; plus = 0; minus = 0 };
  plus = λ x y. record { has = x.has + y.has; plus = x.plus + y.plus; minus = x.minus + y.minus };
  times = λ n x. record { has = n * x.has; plus = n * x.plus; minus = n * x.minus };
  number = λ n. record { has = 0; plus = n; minus = 0 };
  less = λ n x. record { has = x.has; plus = x.plus; minus = x.minus + n };
}

abbrev pub told_at : Assignment → ℕ → Sum
told_at x u = record { has = x u; plus = 0; minus = 0 }

-- a condition as a row
abbrev pub row_at : Condition Sum → Row
row_at c = record { has = c.left.has; asks = c.right.has; right = pos (c.right.plus + c.left.minus) -ℤ pos (c.left.plus + c.right.minus) }

-- with a meter, a function that is called from outside of its group has a signature with cost
abbrev pub PaidFor : Setting → Mode → ℕ → Type 0
PaidFor S (With meter) f = place_in S.group f ≡ None → (s : Sig) × (cost_sig S.program meter S.earlier f ≡ Some s)
PaidFor S mode f = Unit {0}

abbrev pub AllPaid : Setting → Mode → List ℕ → Type 0
AllPaid S mode [] = Unit {0}
AllPaid S mode (f ∷ fs) = PaidFor S mode f × AllPaid S mode fs

-- A function that is there, whose body uses its parameters, and what it calls is paid for.
pub record IsReady (S : Setting) (mode : Mode) (f : ℕ) : Type 0 where
  pub fun : NormFun
  pub there : slice_get S.program.funs f ≡ Some fun
  pub uses : Uses S.program.funs fun.params fun.body fun.result
  pub paid : AllPaid S mode (called_in fun.body)

-- the functions of a group, each of which stands there once
abbrev pub AreReady : Setting → Mode → List ℕ → Type 0
AreReady S mode [] = Unit {0}
AreReady S mode (f ∷ fs) = IsReady S mode f × (list_any (nat_eq f) fs ≡ false) × AreReady S mode fs

-- the function of a target is there, and of the group
abbrev pub HasTarget : Program → List ℕ → Kind → Type 0
HasTarget P group (Free budget f number) = (place : ℕ) × (fun : NormFun) × (place_in group f ≡ Some place) × (slice_get P.funs f ≡ Some fun)
HasTarget P group (k.With meter) = Unit {0}

abbrev pub IsTask : Program → ℕ → List Block → Task → ℕ → Type 0
IsTask P d earlier task scale =
    AreReady (unsigned P d earlier task scale) (mode_of task.kind) (members P task.group) × HasTarget P (members P task.group) task.kind

-- The system of a task is that of its job.
abbrev pub SystemsAreWalked : Type 0
SystemsAreWalked = (P : Program) (d : ℕ) (earlier : List Block) (task : Task) (scale : ℕ) → IsTask P d earlier task scale →
    system P d earlier task scale ≡ system_of (job_of P d earlier task scale) (system P d earlier task scale).weights

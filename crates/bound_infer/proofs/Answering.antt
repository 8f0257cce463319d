-- What is told of a task that is not carried through.
use Rattle.std.proofs.Common.{◌≡◌, ℕ, ℤ, pos, unsigned_abs, List, [], ◌∷◌, map, Some, None, refl, sym, ap, subst}
use Rattle.cost_free.specs.declared.task.Task.{Task}
use Rattle.cost_free.specs.Read.{task_of}
use Rattle.constraint_gen.specs.declared.fault.GenFault.{GenFault}
use Rattle.constraint_gen.specs.declared.fault.GenFault.TheVariants as g
use Rattle.constraint_gen.specs.declared.fault.What.{What}
use Rattle.constraint_gen.specs.declared.fault.What.TheVariants.{Indices, Unknowns, Rows}
use Rattle.constraint_gen.specs.Made.{PlanCause}
use Rattle.linear_rows.specs.Systems.{LinearSystem}
use Rattle.simplex_spec.specs.Courses.{Rule}
use Rattle.infer_spec.specs.States.{State}
use Rattle.infer_spec.specs.Generator as n
use Rattle.infer_spec.specs.Generator.{Analysis, blocker_at, limit_at, system_at}
use Rattle.infer_spec.specs.Places.{RowLeaves}
use Rattle.infer_spec.specs.Clear.{SeenIsFirst}
use Rattle.simplex_checked.specs.Answers.{IsSolution}
use Rattle.bound_infer.specs.Told.{what_of}
use Rattle.bound_infer.specs.After.{StopsOn}
use Rattle.bound_infer.specs.declared.leaves.LeavesAt.TheVariants.{Row}
use Rattle.bound_infer.specs.declared.refusal.InferFault.{InferFault}
use Rattle.bound_infer.specs.declared.refusal.InferFault.TheVariants as i

module _ (A : Analysis) (st : State) (task : Task) (seen : SeenIsFirst) (tried : blocker_at A st (task_of task) ≡ None) where
  pub gen_stops : (fault : GenFault) (told : InferFault) → ((what : What) → fault ≡ g.TooLarge what → told ≡ i.TooLarge task what) → ((row : ℕ) → fault ≡ g.Leaves row → told ≡ i.Leaves (Row task row)) →
      (fault ≡ g.NoMemory → told ≡ i.NoMemory) → ((what : What) → fault ≡ g.TooLarge what → limit_at A st (task_of task) ≡ Some (what_of what)) →
      ((row : ℕ) → fault ≡ g.Leaves row → (limit_at A st (task_of task) ≡ None) × RowLeaves (system_at A st (task_of task)).rows row) → StopsOn A st (task_of task) told
  gen_stops (g.TooLarge what) told large leaves memory limit row =
      subst (StopsOn A st (task_of task)) (sym (large what refl)) (refl, (let first = seen A st (task_of task) tried in first.too_large (what_of what) (limit what refl)))
  gen_stops (g.Leaves place) told large leaves memory limit row =
      subst (StopsOn A st (task_of task)) (sym (leaves place refl)) (refl, (let first = seen A st (task_of task) tried in let r = row place refl in first.row r.0 place r.1))
  gen_stops g.NoMemory told large leaves memory limit row = subst (StopsOn A st (task_of task)) (sym (memory refl)) tt

-- plans are wanting for their indices alone
pub plan_limit : (within : Type 0) (A : Analysis) (st : State) (task : Task) → ((within → ⊥) → limit_at A st (task_of task) ≡ Some n.Indices) → (fault : GenFault) → PlanCause within fault →
    (what : What) → fault ≡ g.TooLarge what → limit_at A st (task_of task) ≡ Some (what_of what)
plan_limit within A st task many fault h what e = by what (subst (PlanCause within) e h)
  where
    by : (what : What) → PlanCause within (g.TooLarge what) → limit_at A st (task_of task) ≡ Some (what_of what)
    by Indices h = many h
    by Unknowns h = absurd h
    by Rows h = absurd h

pub plan_row : (within claim : Type 0) (fault : GenFault) → PlanCause within fault → (row : ℕ) → fault ≡ g.Leaves row → claim
plan_row within claim fault h row e = absurd (subst (PlanCause within) e h)

-- whole numbers that are natural
pub back : (ys : List ℕ) → map unsigned_abs (map pos ys) ≡ ys
back [] = refl
back (y ∷ ys) = ap (λ l. y ∷ l) (back ys)

pub solution_back : (rule : Rule) (s : LinearSystem) (factor t : ℕ) (numbers : List ℤ) (x : List ℕ) → factor ≡ t → numbers ≡ map pos x → IsSolution rule s t x →
    IsSolution rule s factor (map unsigned_abs numbers)
solution_back rule s factor t numbers x f n h =
    subst (λ u. IsSolution rule s u (map unsigned_abs numbers)) (sym f)
    (subst (λ ns. IsSolution rule s t (map unsigned_abs ns)) (sym n) (subst (IsSolution rule s t) (sym (back x)) h))

-- The order of tasks. A program is given by the result type of each function and by its groups, callees first.
use Rattle.std.specs.Prelude.{ℕ, suc, nat_eq, nat_le, Bool, false, cond, ◌&&◌, List, [], ◌∷◌, ◌++◌, map, flat_map, Option, Some, None}
use Rattle.std.specs.Prelude.{slice_get}
use Rattle.std.specs.List.{list_any, range_with_len}
use Rattle.raml_syntax.specs.Tree.{Type'}
use Rattle.cost_free.specs.declared.task.Done.TheVariants.{Solved}
use Rattle.cost_free.specs.Target.{Target, targets, degree_of}
use Rattle.cost_free.specs.Task.{Meter, Ticks, Cells, Work, Kind, Free, With, Task, Outcome}

-- ticks and cells, and work where it is asked for
abbrev pub meters : Bool → List Meter
meters work = Ticks ∷ Cells ∷ cond work (Work ∷ []) []

-- the targets of a function's result at degree d; none where there is no such function
abbrev pub targets_at : Option Type' → ℕ → List Target
targets_at None d = []
targets_at (Some A) d = targets A d

module _ (results : List Type') (d : ℕ) (work : Bool) where
  -- A function's cost-free tasks at a budget, one for each of these targets whose degree is at most the budget. The first of
  -- the targets has this number.
  abbrev pub tasks_for : ℕ → ℕ → ℕ → ℕ → List Target → List Task
  tasks_for group budget fun number [] = []
  tasks_for group budget fun number (t ∷ ts) =
      cond (nat_le (degree_of t) budget)
      (record { group = group; kind = Free budget fun number } ∷ []) [] ++ tasks_for group budget fun (suc number) ts

  -- the cost-free tasks of a group: by budget, from 0 to d, then by function, then by target
  abbrev pub free_tasks : ℕ → List ℕ → List Task
  free_tasks group funs =
      flat_map (λ budget. flat_map
      (λ fun. tasks_for group budget fun 0 (targets_at (slice_get results fun) d)) funs) (range_with_len 0 (suc d))

  -- all tasks of a group: the cost-free ones, and then one with costs for each meter
  abbrev pub group_tasks : ℕ → List ℕ → List Task
  group_tasks group funs = free_tasks group funs ++ map (λ meter. record { group = group; kind = With meter }) (meters work)

  -- the tasks of all groups, the first of which has this number
  abbrev pub tasks_from : ℕ → List (List ℕ) → List Task
  tasks_from group [] = []
  tasks_from group (funs ∷ rest) = group_tasks group funs ++ tasks_from (suc group) rest

-- the task is for this target of the function
abbrev pub is_for : ℕ → ℕ → Kind → Bool
is_for fun target (Free budget g number) = nat_eq fun g && nat_eq target number
is_for fun target (With meter) = false

-- the task was for this target of the function, and is solved
abbrev pub solves : ℕ → ℕ → Outcome → Bool
solves fun target (task, Solved) = is_for fun target task.kind
solves fun target (task, _) = false

-- A cost-free task is left out where a task before, at a lower budget, solved its target.
abbrev pub is_left_out : List Outcome → Kind → Bool
is_left_out past (Free budget fun target) = list_any (solves fun target) past
is_left_out past (With meter) = false

-- The next of these tasks. Tasks that are left out are passed over. The others are done in order, and `done` says how each
-- came out; the first one about which it says nothing is next. `past` says the same of the tasks before these, the last first.
abbrev pub next_of : List Task → List Outcome → List Outcome → Option Task
next_of [] past done = None
next_of (c ∷ cs) past [] = cond (is_left_out past c.kind) (next_of cs past []) (Some c)
next_of (c ∷ cs) past (e ∷ done) = cond (is_left_out past c.kind) (next_of cs past (e ∷ done)) (next_of cs (e ∷ past) done)

-- The next task of the schedule at degree d after those that are done; None at its end.
abbrev pub next : List Type' → List (List ℕ) → ℕ → Bool → List Outcome → Option Task
next results groups d work done = next_of (tasks_from results d work 0 groups) [] done

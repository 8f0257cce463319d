-- Where the schedule does not go on: a function of the next group has a result with too many indices.
use Rattle.std.specs.Prelude.{◌≡◌, ◌<◌, ℕ, nat_lt, Bool, true, false, List, [], ◌∷◌, ◌++◌, length, take, Option, Some, None, slice_get}
use Rattle.std.specs.List.{list_any}
use Rattle.raml_syntax.specs.Tree.{Type'}
use Rattle.raml_syntax.specs.declared.ty.Ty.{Ty}
use Rattle.base_poly.specs.Indices.{index_list}
use Rattle.base_poly.specs.Read.{context_of}
use Rattle.cost_free.specs.Task.{Task, Done, Outcome}
use Rattle.cost_free.specs.Blocked.{row}
use Rattle.cost_free.specs.Schedule.{next}

-- What a schedule goes by: the result type of each function, the groups, callees first, the degree, and whether work is asked for.
pub record Plan : Type 0 where
  pub results : List Type'
  pub groups : List (List ℕ)
  pub degree : ℕ
  pub work : Bool

abbrev pub next_in : Plan → List Outcome → Option Task
next_in plan done = next plan.results plan.groups plan.degree plan.work done

-- a type that is there has more indices than this of degree at most d
abbrev pub has_more : ℕ → ℕ → Option Type' → Bool
has_more most d None = false
has_more most d (Some A) = nat_lt most (length (index_list (A ∷ []) d))

-- one of the functions has a result with more indices than this
abbrev pub any_has_more : ℕ → Plan → List ℕ → Bool
any_has_more most plan funs = list_any (λ fun. has_more most plan.degree (slice_get plan.results fun)) funs

-- The next task is the first of its group, and the group has a function whose result has more indices than this.
pub record IsRefused (most : ℕ) (plan : Plan) (done : List Outcome) : Type 0 where
  pub task : Task
  pub is_next : next_in plan done ≡ Some task
  -- no task that came before is of its group
  pub is_first : (n : ℕ) (earlier : Task) → n < length done → next_in plan (take n done) ≡ Some earlier → earlier.group ≡ task.group → ⊥
  pub is_large : any_has_more most plan (row plan.groups task.group) ≡ true

-- a schedule: the types of the functions' results, the rest of the plan, and the outcomes so far
pub record Course : Type 0 where
  pub results : List Ty
  pub groups : List (List ℕ)
  pub degree : ℕ
  pub work : Bool
  pub done : List Outcome

abbrev pub plan_in : Course → Plan
plan_in course = record { results = context_of course.results; groups = course.groups; degree = course.degree; work = course.work }

-- the outcomes with that of the next task, where there is one
abbrev pub with_outcome : Done → Option Task → List Outcome → List Outcome
with_outcome outcome None done = done
with_outcome outcome (Some task) done = done ++ (task, outcome) ∷ []

-- the schedule past its next task, which came out so
abbrev pub gone_on : Done → Course → Course
gone_on outcome course = record {
  results = course.results;
  groups = course.groups;
  degree = course.degree;
  work = course.work;
  done = with_outcome outcome (next_in (plan_in course) course.done) course.done;
}

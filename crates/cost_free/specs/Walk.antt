-- A walk over the schedule, which keeps the solved targets and the tasks of one group.
use Rattle.std.specs.Prelude.{◌≡◌, ◌<◌, ◌+◌, ℕ, Bool, true, false, cond, List, [], ◌∷◌, ◌++◌, length, take, drop, Option, Some, None}
use Rattle.std.specs.Prelude.{slice_get}
use Rattle.std.specs.List.{list_any}
use Rattle.std.specs.Ordering.{ordering_then, nat_cmp, is_eq}
use Rattle.cost_free.specs.Task.{Kind, Task, Free, With, Outcome}
use Rattle.cost_free.specs.Blocked.{row}
use Rattle.cost_free.specs.Schedule.{group_tasks, tasks_from, is_left_out, next_of}
use Rattle.cost_free.specs.Refused.{Plan, next_in, any_has_more}

-- a function and the number of one of its targets are among these
abbrev pub holds : List (ℕ × ℕ) → ℕ → ℕ → Bool
holds keys fun target = list_any (λ x. is_eq (ordering_then (nat_cmp fun x.0) (nat_cmp target x.1))) keys

-- it is a task for a target that is among these
abbrev pub is_solved : List (ℕ × ℕ) → Kind → Bool
is_solved keys (Free budget fun target) = holds keys fun target
is_solved keys (With meter) = false

-- the tasks from the first one on whose target is not solved
abbrev pub open_from : List (ℕ × ℕ) → List Task → List Task
open_from keys [] = []
open_from keys (c ∷ cs) = cond (is_solved keys c.kind) (open_from keys cs) (c ∷ cs)

abbrev pub first : List Task → Option Task
first [] = None
first (c ∷ cs) = Some c

-- Where a walk stands: the targets that are solved, how many groups were entered, and what is left of the tasks of the last of these.
pub record Place : Type 0 where
  pub keys : List (ℕ × ℕ)
  pub entered : ℕ
  pub left : List Task

-- past the tasks whose targets are solved
abbrev pub passed : Place → Place
passed p = record { keys = p.keys; entered = p.entered; left = open_from p.keys p.left }

-- at the first open task of the next group, where there is one
abbrev pub into : Plan → Place → Option (List ℕ) → Place
into plan p None = p
into plan p (Some funs) = record {
  keys = p.keys;
  entered = p.entered + 1;
  left = open_from p.keys (group_tasks plan.results plan.degree plan.work p.entered funs);
}

abbrev pub at : Plan → Place → List Task → Place
at plan p [] = into plan (record { keys = p.keys; entered = p.entered; left = [] }) (slice_get plan.groups p.entered)
at plan p (c ∷ cs) = record { keys = p.keys; entered = p.entered; left = c ∷ cs }

-- at the next open task: of the same group, or of the next one
abbrev pub advanced : Plan → Place → Place
advanced plan p = at plan p (open_from p.keys p.left)

-- a group is not entered, or none of its functions has a result with more indices than this
abbrev pub MayEnter : ℕ → Plan → Place → Type 0
MayEnter most plan p = open_from p.keys p.left ≡ [] → any_has_more most plan (row plan.groups p.entered) ≡ false

-- a group is to be entered, and one of its functions has a result with more indices than this
abbrev pub CantEnter : ℕ → Plan → Place → Type 0
CantEnter most plan p = (open_from p.keys p.left ≡ []) × (any_has_more most plan (row plan.groups p.entered) ≡ true)

-- they are the targets that are solved among what is past
abbrev pub Knows : List (ℕ × ℕ) → List Outcome → Type 0
Knows keys past = (budget fun target : ℕ) → is_left_out past (Free budget fun target) ≡ holds keys fun target

-- The second place is past the task at hand, which came out as the entry says.
pub record Taken (p : Place) (e : Outcome) (q : Place) : Type 0 where
  pub knows : (past : List Outcome) → Knows p.keys past → Knows q.keys (e ∷ past)
  pub left : q.left ≡ drop 1 p.left
  pub entered : q.entered ≡ p.entered

-- both places are the same
pub record StaysAt (p q : Place) : Type 0 where
  pub knows : (past : List Outcome) → Knows p.keys past → Knows q.keys past
  pub left : q.left ≡ p.left
  pub entered : q.entered ≡ p.entered

-- they are of the last of the groups that were entered
abbrev pub AreOf : ℕ → List Task → Type 0
AreOf entered [] = Unit {0}
AreOf entered (t ∷ ts) = (t.group + 1 ≡ entered) × AreOf entered ts

-- After these outcomes a walk stands at this place: what is left decides whatever is done from here on.
pub record HasCome (plan : Plan) (done : List Outcome) (p : Place) : Type 0 where
  pub past : List Outcome
  pub knows : Knows p.keys past
  pub decides : (more : List Outcome) → next_in plan (done ++ more)
      ≡ next_of (p.left ++ tasks_from plan.results plan.degree plan.work p.entered (drop p.entered plan.groups)) past more
  pub of_group : AreOf p.entered p.left
  -- so far only tasks of groups that were entered came
  pub came : (n : ℕ) (t : Task) → n < length done → next_in plan (take n done) ≡ Some t → t.group < p.entered

-- a task of the group came
pub record GroupCame (plan : Plan) (done : List Outcome) (group : ℕ) : Type 0 where
  pub count : ℕ
  pub task : Task
  pub before : count < length done
  pub is_next : next_in plan (take count done) ≡ Some task
  pub is_of : task.group ≡ group

-- Where the last group that was entered has a function whose result has too many indices, a task of it came.
abbrev pub Fits : ℕ → Plan → List Outcome → ℕ → Type 0
Fits most plan done entered =
    (group : ℕ) → group + 1 ≡ entered → any_has_more most plan (row plan.groups group) ≡ true → GroupCame plan done group

-- After these outcomes a walk that enters no group that is too large, but for one of which a task came, stands at this place.
pub record Stands (plan : Plan) (done : List Outcome) (p : Place) : Type 0 where
  pub come : HasCome plan done p
  pub fits : Fits 2000 plan done p.entered

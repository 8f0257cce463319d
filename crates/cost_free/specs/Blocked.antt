-- Tasks with cost that are not tried, since a function that the group calls has no bound.
use Rattle.std.specs.Prelude.{ℕ, zero, suc, nat_eq, Bool, false, cond, not, ◌&&◌, List, [], take, length, Option, Some, None, slice_get}
use Rattle.std.specs.Option.{unwrap_or}
use Rattle.std.specs.List.{list_any}
use Rattle.cost_free.specs.declared.task.Done.TheVariants.{Solved}
use Rattle.cost_free.specs.Task.{Meter, Kind, Free, With, Task, Outcome, same_meter}

abbrev pub is_among : ℕ → List ℕ → Bool
is_among f fs = list_any (nat_eq f) fs

-- the list at this place; none where there is none
abbrev pub row : List (List ℕ) → ℕ → List ℕ
row rows k = unwrap_or (slice_get rows k) []

abbrev pub is_for_meter : Meter → Kind → Bool
is_for_meter meter (Free budget fun target) = false
is_for_meter meter (With other) = same_meter meter other

-- it solved the task of the meter
abbrev pub pays_for : Meter → Outcome → Bool
pays_for meter (task, Solved) = is_for_meter meter task.kind
pays_for meter (task, _) = false

-- the first of so many numbers, from this one on, that passes the test
abbrev pub least_from : (ℕ → Bool) → ℕ → ℕ → Option ℕ
least_from test zero k = None
least_from test (suc count) k = cond (test k) (Some k) (least_from test count (suc k))

-- one of these functions calls the function
abbrev pub any_calls : List (List ℕ) → ℕ → List ℕ → Bool
any_calls calls f gs = list_any (λ g. is_among f (row calls g)) gs

-- it is in one of these groups
abbrev pub in_any : ℕ → List (List ℕ) → Bool
in_any f groups = list_any (is_among f) groups

-- the meter's task of its group is solved
abbrev pub has_bound : List (List ℕ) → Meter → List Outcome → ℕ → Bool
has_bound groups meter done f = list_any (λ (e : Outcome). pays_for meter e && is_among f (row groups e.0.group)) done

-- Of a program with these groups, where each function calls these functions.
module _ (groups calls : List (List ℕ)) where
  -- a function of the group calls the function
  abbrev pub is_called : ℕ → ℕ → Bool
  is_called group f = any_calls calls f (row groups group)

  -- it is in an earlier group
  abbrev pub is_earlier : ℕ → ℕ → Bool
  is_earlier group f = in_any f (take group groups)

  -- it is in the way of the meter's task of the group: a function of the group calls it, it is in an earlier group, and it has no bound
  abbrev pub blocks : ℕ → Meter → List Outcome → ℕ → Bool
  blocks group meter done f = (is_called group f && is_earlier group f) && not (has_bound groups meter done f)

  -- The least function of an earlier group that the task's group calls, and that has no bound for the meter. No cost-free task has one.
  abbrev pub blocker : ℕ → Kind → List Outcome → Option ℕ
  blocker group (Free budget fun target) done = None
  blocker group (With meter) done = least_from (blocks group meter done) (length calls) 0

  abbrev pub blocked : Task → List Outcome → Option ℕ
  blocked task done = blocker task.group task.kind done

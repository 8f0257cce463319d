-- Tasks of the schedule.
use Rattle.std.proofs.Common.{◌≡◌, subst, arith}
use Rattle.std.specs.Prelude.{ℕ, zero, suc, ◌+◌, ◌≤◌, Bool, true, false, cond, nat_le, List, [], ◌∷◌, ◌++◌, map, flat_map, slice_get, Some}
use Rattle.std.specs.List.{range_with_len}
use Rattle.std.proofs.lemmas.Option.{none-some, same_Some}
use Rattle.raml_syntax.specs.Tree.{Type'}
use Rattle.cost_free.specs.declared.task.Meter.{Meter}
use Rattle.cost_free.specs.Target.{Target, degree_of}
use Rattle.cost_free.specs.Task.{Free, With, Task, Outcome}
use Rattle.cost_free.specs.Schedule.{meters, targets_at, tasks_for, free_tasks, group_tasks, tasks_from, is_left_out, next_of, next}
use Rattle.annot_types.specs.Holds.{budget_of}

-- of budget at most d
IsLow : ℕ → Task → Type 0
IsLow d t = budget_of d t.kind ≤ d

AllLow : ℕ → List Task → Type 0
AllLow d [] = Unit {0}
AllLow d (t ∷ ts) = IsLow d t × AllLow d ts

low_append : (d : ℕ) (xs ys : List Task) → AllLow d xs → AllLow d ys → AllLow d (xs ++ ys)
unfolding AllLow
low_append d [] ys h k = k
low_append d (x ∷ xs) ys h k = (h.0, low_append d xs ys h.1 k)

low_flat : (d : ℕ) (f : ℕ → List Task) (xs : List ℕ) → ((x : ℕ) → AllLow d (f x)) → AllLow d (flat_map f xs)
unfolding AllLow
low_flat d f [] h = tt
low_flat d f (x ∷ xs) h = low_append d (f x) (flat_map f xs) (h x) (low_flat d f xs h)

low_range : (d : ℕ) (f : ℕ → List Task) (k n : ℕ) → k + n ≤ suc d → ((b : ℕ) → b ≤ d → AllLow d (f b)) → AllLow d (flat_map f (range_with_len k n))
unfolding AllLow
low_range d f k zero l h = tt
low_range d f k (suc n) l h = low_append d (f k) (flat_map f (range_with_len (k + 1) n)) (h k (omega (arith, l))) (low_range d f (k + 1) n (omega (arith, l)) h)

module _ (results : List Type') (d : ℕ) (work : Bool) where
  low_for : (group budget fun number : ℕ) (ts : List Target) → budget ≤ d → AllLow d (tasks_for results d work group budget fun number ts)
  unfolding AllLow IsLow
  low_for group budget fun number [] l = tt
  low_for group budget fun number (t ∷ ts) l =
      low_append d (cond (nat_le (degree_of t) budget) (record { group = group; kind = Free budget fun number } ∷ []) [])
      (tasks_for results d work group budget fun (suc number) ts) (by (nat_le (degree_of t) budget)) (low_for group budget fun (suc number) ts l) where
        by : (b : Bool) → AllLow d (cond b (record { group = group; kind = Free budget fun number } ∷ []) [])
        by true = (l, tt)
        by false = tt

  low_meters : (group : ℕ) (ms : List Meter) → AllLow d (map (λ meter. record { group = group; kind = With meter }) ms)
  unfolding AllLow IsLow
  low_meters group [] = tt
  low_meters group (m ∷ ms) = (omega arith, low_meters group ms)

  low_group : (group : ℕ) (funs : List ℕ) → AllLow d (group_tasks results d work group funs)
  low_group group funs = low_append d (free_tasks results d work group funs) (map (λ meter. record { group = group; kind = With meter }) (meters work))
      (low_range d (λ budget. flat_map (λ fun. tasks_for results d work group budget fun 0 (targets_at (slice_get results fun) d)) funs) 0 (suc d) (omega arith)
      (λ b l. low_flat d (λ fun. tasks_for results d work group b fun 0 (targets_at (slice_get results fun) d)) funs
      (λ fun. low_for group b fun 0 (targets_at (slice_get results fun) d) l)))
      (low_meters group (meters work))

  low_from : (group : ℕ) (groups : List (List ℕ)) → AllLow d (tasks_from results d work group groups)
  unfolding AllLow
  low_from group [] = tt
  low_from group (funs ∷ rest) = low_append d (group_tasks results d work group funs) (tasks_from results d work (suc group) rest) (low_group group funs) (low_from (suc group) rest)

next_low : (d : ℕ) (cs : List Task) (past done : List Outcome) (t : Task) → AllLow d cs → next_of cs past done ≡ Some t → IsLow d t
unfolding AllLow
next_low d [] past done t h e = absurd (none-some t e)
next_low d (c ∷ cs) past [] t h e = by (is_left_out past c.kind) e (next_low d cs past [] t h.1) where
  by : (b : Bool) → cond b (next_of cs past []) (Some c) ≡ Some t → (next_of cs past [] ≡ Some t → IsLow d t) → IsLow d t
  by true e k = k e
  by false e k = subst (IsLow d) (same_Some c t e) h.0
next_low d (c ∷ cs) past (o ∷ done) t h e = by (is_left_out past c.kind) e (next_low d cs past (o ∷ done) t h.1) (next_low d cs (o ∷ past) done t h.1) where
  by : (b : Bool) → cond b (next_of cs past (o ∷ done)) (next_of cs (o ∷ past) done) ≡ Some t → (next_of cs past (o ∷ done) ≡ Some t → IsLow d t) →
      (next_of cs (o ∷ past) done ≡ Some t → IsLow d t) → IsLow d t
  by true e k m = k e
  by false e k m = m e

-- the next task has a budget of at most the degree
pub task_is_low : (results : List Type') (groups : List (List ℕ)) (d : ℕ) (work : Bool) (done : List Outcome) (t : Task) →
    next results groups d work done ≡ Some t → budget_of d t.kind ≤ d
unfolding IsLow
task_is_low results groups d work done t e = next_low d (tasks_from results d work 0 groups) [] done t (low_from results d work 0 groups) e

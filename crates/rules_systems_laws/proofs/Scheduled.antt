-- The tasks of the schedule are of targets.
use Rattle.std.proofs.Common.{◌≡◌, ◌≤◌, ℕ, suc, ◌+◌, nat_le, nat_eq, cond, ◌||◌, Bool, true, false, List, [], ◌∷◌, map, flat_map, slice_get, Some, refl, sym, ap, ◌∙◌, ⊎_elim, inl, inr, subst, arith}
use Rattle.std.specs.Option.{unwrap_or}
use Rattle.std.specs.List.{list_any, range_with_len}
use Rattle.std.proofs.lemmas.Bool.Decides.{nat_tests}
use Rattle.rules_systems_laws.proofs.Targets.{range_below}
use Rattle.base_poly.proofs.Among.{Among, among_either, among_mapped, among_part}
use Rattle.normal_spec.specs.Norm.{NormFun}
use Rattle.cost_free.specs.Target.{Target, degree_of, targets}
use Rattle.cost_free.specs.Task as k
use Rattle.cost_free.specs.Task.{Kind, Free, Task, Outcome}
use Rattle.cost_free.specs.Blocked.{is_among}
use Rattle.cost_free.specs.Schedule.{meters, targets_at, tasks_for, free_tasks, group_tasks, tasks_from, is_left_out, next_of}
use Rattle.annot_types.specs.Program.{Program, members, results}
use Rattle.annot_types.proofs.Lists.{some_is, map_get}
use Rattle.rules_systems_laws.specs.Laws.{IsNumbered}
use Rattle.rules_systems_laws.specs.Shaped.{HasNumber, TargetsAreNumbered}
use Rattle.rules_systems_laws.proofs.Numbered.{have_positions}

-- Lists

-- the next task is one of them
next_among : (ts : List Task) (past done : List Outcome) (task : Task) → next_of ts past done ≡ Some task → Among task ts
next_among [] past done task e = absurd (cc)
next_among (t ∷ ts) past [] task e = by (is_left_out past t.kind) e (next_among ts past [] task)
  where
    by : (b : Bool) → cond b (next_of ts past []) (Some t) ≡ Some task → (next_of ts past [] ≡ Some task → Among task ts) → Among task (t ∷ ts)
    by true e go = inr (go e)
    by false e go = inl (some_is t task e)
next_among (t ∷ ts) past (o ∷ done) task e = by (is_left_out past t.kind) e (next_among ts past (o ∷ done) task) (next_among ts (o ∷ past) done task)
  where
    by : (b : Bool) → cond b (next_of ts past (o ∷ done)) (next_of ts (o ∷ past) done) ≡ Some task → (next_of ts past (o ∷ done) ≡ Some task → Among task ts) →
        (next_of ts (o ∷ past) done ≡ Some task → Among task ts) → Among task (t ∷ ts)
    by true e go on = inr (go e)
    by false e go on = inr (on e)

same_is : (f : ℕ) → nat_eq f f ≡ true
same_is f = grind (arith, nat_tests)

pub among_is : (fs : List ℕ) (f : ℕ) → Among f fs → is_among f fs ≡ true
among_is [] f h = absurd h
among_is (g ∷ fs) f h = ⊎_elim
    (λ e. (λ i. nat_eq f (e i) || list_any (nat_eq f) fs) ∙ (λ i. same_is f i || list_any (nat_eq f) fs))
    (λ m. by (nat_eq f g) (among_is fs f m)) h
  where
    by : (b : Bool) → is_among f fs ≡ true → (b || list_any (nat_eq f) fs) ≡ true
    by true q = refl
    by false q = q

module _ (P : Program) (d : ℕ) (work : Bool) where
  abbrev Q : Task → Type 0
  Q task = HasNumber P d task.group task.kind

  for_targets : (group budget f : ℕ) → is_among f (members P group) ≡ true → budget ≤ d → (all : List Target) → ((g : NormFun) → slice_get P.funs f ≡ Some g → targets g.result d ≡ all) →
      (number : ℕ) (ts : List Target) → ((k : ℕ) → slice_get all (number + k) ≡ slice_get ts k) → (task : Task) → Among task (tasks_for (results P) d work group budget f number ts) → Q task
  for_targets group budget f member fits all of number [] same task m = absurd m
  for_targets group budget f member fits all of number (t ∷ ts) same task m = ⊎_elim
      (by (nat_le (degree_of t) budget) refl)
      (for_targets group budget f member fits all of (suc number) ts (λ k. ap (slice_get all) (next number k) ∙ same (suc k)) task)
      (among_either task (cond (nat_le (degree_of t) budget) (record { group = group; kind = Free budget f number } ∷ []) []) (tasks_for (results P) d work group budget f (suc number) ts) m)
    where
      next : (number k : ℕ) → suc number + k ≡ number + suc k
      next number k = omega arith

      low : nat_le (degree_of t) budget ≡ true → degree_of t ≤ budget
      low e = grind (arith, nat_tests, e)

      at_number : slice_get all number ≡ Some t
      at_number = ap (slice_get all) (plus_zero number) ∙ same 0
        where
          plus_zero : (n : ℕ) → n ≡ n + 0
          plus_zero n = omega arith

      by : (b : Bool) → nat_le (degree_of t) budget ≡ b → Among task (cond b (record { group = group; kind = Free budget f number } ∷ []) []) → Q task
      by true e m = ⊎_elim
          (λ s. subst Q s (record { member = member; budget_fits = fits; target = λ g there. (t, ap (λ ts. slice_get ts number) (of g there) ∙ at_number, low e) }))
          (λ n. absurd n) m
      by false e m = absurd m

  for_function : (group budget f : ℕ) → is_among f (members P group) ≡ true → budget ≤ d → (task : Task) → Among task (tasks_for (results P) d work group budget f 0 (targets_at (slice_get (results P) f) d)) → Q task
  for_function group budget f member fits =
      for_targets group budget f member fits (targets_at (slice_get (results P) f) d) (λ g there. ap (λ o. targets_at o d) (sym (map_get (λ (g : NormFun). g.result) P.funs f g there))) 0
      (targets_at (slice_get (results P) f) d) (λ k. ap (slice_get (targets_at (slice_get (results P) f) d)) (zero_plus k))
    where
      zero_plus : (k : ℕ) → 0 + k ≡ k
      zero_plus k = omega arith

  for_group : (group : ℕ) (funs : List ℕ) → slice_get P.groups group ≡ Some funs → (task : Task) → Among task (group_tasks (results P) d work group funs) → Q task
  for_group group funs here task m = ⊎_elim free paid (among_either task (free_tasks (results P) d work group funs) (map (λ meter. record { group = group; kind = k.With meter }) (meters work)) m)
    where
      free : Among task (free_tasks (results P) d work group funs) → Q task
      free m =
          let b = among_part (λ budget. flat_map (λ f. tasks_for (results P) d work group budget f 0 (targets_at (slice_get (results P) f) d)) funs) task (range_with_len 0 (suc d)) m in
          let f = among_part (λ f. tasks_for (results P) d work group b.0 f 0 (targets_at (slice_get (results P) f) d)) task funs b.2 in
          let low = range_below 0 (suc d) b.0 b.1 in
          for_function group b.0 f.0 (ap (λ o. is_among f.0 (unwrap_or o [])) here ∙ among_is funs f.0 f.1) (omega (arith, low)) task f.2

      paid : Among task (map (λ meter. record { group = group; kind = k.With meter }) (meters work)) → Q task
      paid m = let p = among_mapped (λ meter. record { group = group; kind = k.With meter }) task (meters work) m in subst Q p.2 tt

  for_groups : (group : ℕ) (groups : List (List ℕ)) → ((k : ℕ) → slice_get P.groups (group + k) ≡ slice_get groups k) → (task : Task) → Among task (tasks_from (results P) d work group groups) → Q task
  for_groups group [] same task m = absurd m
  for_groups group (funs ∷ rest) same task m = ⊎_elim
      (for_group group funs (ap (slice_get P.groups) (plus_zero group) ∙ same 0) task)
      (for_groups (suc group) rest (λ k. ap (slice_get P.groups) (next group k) ∙ same (suc k)) task)
      (among_either task (group_tasks (results P) d work group funs) (tasks_from (results P) d work (suc group) rest) m)
    where
      next : (group k : ℕ) → suc group + k ≡ group + suc k
      next group k = omega arith

      plus_zero : (n : ℕ) → n ≡ n + 0
      plus_zero n = omega arith

pub targets_are_numbered : TargetsAreNumbered
targets_are_numbered P d work done task e =
    for_groups P d work 0 P.groups (λ k. ap (slice_get P.groups) (zero_plus k)) task (next_among (tasks_from (results P) d work 0 P.groups) [] done task e)
  where
    zero_plus : (k : ℕ) → 0 + k ≡ k
    zero_plus k = omega arith

pub numbered : (P : Program) (d group : ℕ) (kind : Kind) → HasNumber P d group kind → IsNumbered P d kind
numbered P d group (Free budget f number) h = λ g there. let t = h.target g there in (t.0, t.1, have_positions g.result d budget number t.0 t.1 t.2)
numbered P d group (k.With meter) h = tt

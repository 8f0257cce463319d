-- In a whole run of the schedule a task with cost comes once.
use Rattle.std.proofs.Common.{◌≡◌, refl, ap, sym, ◌∙◌, arith, inl, inr, ◌⊎◌, ⊎_elim}
use Rattle.std.proofs.lemmas.List.Elements.{filter-append}
use Rattle.std.specs.Prelude.{ℕ, zero, suc, ◌+◌, ◌<◌, nat_eq, nat_le, Bool, true, false, cond, ◌&&◌, ◌||◌, List, [], ◌∷◌, ◌++◌, map, flat_map, filter, take, length, slice_get, Some}
use Rattle.std.specs.List.{range_with_len, Contains}
use Rattle.std.proofs.lemmas.Bool.{eqb-true, eq-eqb}
use Rattle.std.proofs.lemmas.Option.{none-some, same_Some}
use Rattle.raml_syntax.specs.Tree.{Type', Prog}
use Rattle.call_groups.specs.Groups.{Reaches, ComesNext, AreInOrder}
use Rattle.call_groups.proofs.Leads.{reaches_more}
use Rattle.base_poly.proofs.Among.{Among, contains_among, among_contains, among_left, among_right, among_either}
use Rattle.cost_free.specs.declared.task.Meter.{Meter}
use Rattle.cost_free.specs.declared.task.Meter.TheVariants.{Ticks, Cells, Work}
use Rattle.cost_free.specs.Target.{Target, degree_of}
use Rattle.cost_free.specs.Task as k
use Rattle.cost_free.specs.Task.{Kind, Free, Task, Outcome, same_meter}
use Rattle.cost_free.specs.Schedule.{meters, targets_at, tasks_for, free_tasks, group_tasks, tasks_from, is_left_out, next_of}
use Rattle.cost_free.specs.Blocked.{row, is_among, is_for_meter}
use Rattle.infer_spec.proofs.Present.{IsWhole}

apart : true ≡ false → ⊥
apart e = cc

-- the tasks of outcomes
abbrev pub tasks_of : List Outcome → List Task
tasks_of os = map (λ (o : Outcome). o.0) os

-- Of tasks of which none is left out those of a whole run are all.
module _ (Q : Task → Bool) (never : (t : Task) (past : List Outcome) → is_left_out past t.kind ≡ true → Q t ≡ false) where
  kept_first : (t : Task) (ts : List Task) (b : Bool) → Q t ≡ b → b ≡ false → filter Q (t ∷ ts) ≡ filter Q ts
  kept_first t ts b e f = ap (λ b. cond b (t ∷ filter Q ts) (filter Q ts)) (e ∙ f)

  pub all_come : (ts : List Task) (past rest : List Outcome) → IsWhole ts past rest → filter Q (tasks_of rest) ≡ filter Q ts
  all_come [] past [] h = refl
  all_come [] past (o ∷ rest) h = absurd (none-some o.0 (h.tasks 0 o refl))
  all_come (t ∷ ts) past [] h = by (is_left_out past t.kind) refl (all_come ts past []) where
    by : (b : Bool) → is_left_out past t.kind ≡ b → (IsWhole ts past [] → filter Q (tasks_of []) ≡ filter Q ts) → [] ≡ filter Q (t ∷ ts)
    by true e go = go (record { tasks = λ i o g. absurd (none-some o g); over = (λ i. cond (sym e i) (next_of ts past []) (Some t)) ∙ h.over })
        ∙ sym (kept_first t ts (Q t) refl (never t past e))
    by false e go = absurd (none-some t (sym ((λ i. cond (sym e i) (next_of ts past []) (Some t)) ∙ h.over)))
  all_come (t ∷ ts) past (o ∷ rest) h = by (is_left_out past t.kind) refl (all_come ts past (o ∷ rest)) (all_come ts (o ∷ past) rest) where
    skipped : is_left_out past t.kind ≡ true → IsWhole ts past (o ∷ rest)
    skipped e = record { tasks = at; over = (λ i. cond (sym e i) (next_of ts past (o ∷ rest)) (next_of ts (o ∷ past) rest)) ∙ h.over } where
      at : (j : ℕ) (out : Outcome) → slice_get (o ∷ rest) j ≡ Some out → next_of ts past (take j (o ∷ rest)) ≡ Some out.0
      at zero out g = (λ i. cond (sym e i) (next_of ts past []) (Some t)) ∙ h.tasks zero out g
      at (suc j) out g = (λ i. cond (sym e i) (next_of ts past (o ∷ take j rest)) (next_of ts (o ∷ past) (take j rest))) ∙ h.tasks (suc j) out g

    later : is_left_out past t.kind ≡ false → IsWhole ts (o ∷ past) rest
    later e = record {
      tasks = λ j out g. (λ i. cond (sym e i) (next_of ts past (o ∷ take j rest)) (next_of ts (o ∷ past) (take j rest))) ∙ h.tasks (suc j) out g;
      over = (λ i. cond (sym e i) (next_of ts past (o ∷ rest)) (next_of ts (o ∷ past) rest)) ∙ h.over;
    }

    first : is_left_out past t.kind ≡ false → t ≡ o.0
    first e = same_Some t o.0 ((λ i. cond (sym e i) (next_of ts past []) (Some t)) ∙ h.tasks zero o refl)

    by : (b : Bool) → is_left_out past t.kind ≡ b → (IsWhole ts past (o ∷ rest) → filter Q (tasks_of (o ∷ rest)) ≡ filter Q ts) →
        (IsWhole ts (o ∷ past) rest → filter Q (tasks_of rest) ≡ filter Q ts) → filter Q (tasks_of (o ∷ rest)) ≡ filter Q (t ∷ ts)
    by true e go next = go (skipped e) ∙ sym (kept_first t ts (Q t) refl (never t past e))
    by false e go next = λ i. cond (Q (sym (first e) i)) (sym (first e) i ∷ next (later e) i) (next (later e) i)

filter_flat : {X Y : Type 0} (Q : Y → Bool) (f : X → List Y) (xs : List X) → ((x : X) → filter Q (f x) ≡ []) → filter Q (flat_map f xs) ≡ []
filter_flat Q f [] h = refl
filter_flat Q f (x ∷ xs) h = filter-append Q (f x) (flat_map f xs) ∙ (λ i. h x i ++ filter_flat Q f xs h i)

-- The tasks of a meter for the groups with a function are one.
module _ (groups : List (List ℕ)) (meter : Meter) (f : ℕ) where
  abbrev pub is_it : Task → Bool
  is_it t = is_for_meter meter t.kind && is_among f (row groups t.group)

  pub never_left : (t : Task) (past : List Outcome) → is_left_out past t.kind ≡ true → is_it t ≡ false
  never_left t past e = by t.kind e where
    by : (kind : Kind) → is_left_out past kind ≡ true → (is_for_meter meter kind && is_among f (row groups t.group)) ≡ false
    by (Free budget g number) e = refl
    by (k.With other) e = absurd (apart (sym e))

  abbrev task : ℕ → Task
  task group = record { group = group; kind = k.With meter }

  module _ (rs : List Type') (d : ℕ) (work : Bool) (counted : Contains (meters work) meter) where
    no_free_for : (group budget fun number : ℕ) (ts : List Target) → filter is_it (tasks_for rs d work group budget fun number ts) ≡ []
    no_free_for group budget fun number [] = refl
    no_free_for group budget fun number (t ∷ ts) = by (nat_le (degree_of t) budget) (no_free_for group budget fun (suc number) ts) where
      by : (b : Bool) → filter is_it (tasks_for rs d work group budget fun (suc number) ts) ≡ [] →
          filter is_it (cond b (record { group = group; kind = Free budget fun number } ∷ []) [] ++ tasks_for rs d work group budget fun (suc number) ts) ≡ []
      by true e = e
      by false e = e

    no_free : (group : ℕ) (fs : List ℕ) → filter is_it (free_tasks rs d work group fs) ≡ []
    no_free group fs = filter_flat is_it (λ budget. flat_map (λ fun. tasks_for rs d work group budget fun 0 (targets_at (slice_get rs fun) d)) fs) (range_with_len 0 (suc d))
        (λ budget. filter_flat is_it (λ fun. tasks_for rs d work group budget fun 0 (targets_at (slice_get rs fun) d)) fs
        (λ fun. no_free_for group budget fun 0 (targets_at (slice_get rs fun) d)))

    -- of the tasks with cost of a group
    of_meters : (group : ℕ) → filter is_it (map (λ other. record { group = group; kind = k.With other }) (meters work)) ≡ cond (is_among f (row groups group)) (task group ∷ []) []
    of_meters group = by meter work (contains_among meter (meters work) counted) where
      no_work : (Ticks ≡ Work) ⊎ (Cells ≡ Work) ⊎ ⊥ → ⊥
      no_work (inl e) = cc
      no_work (inr (inl e)) = cc
      no_work (inr (inr e)) = e

      by : (meter : Meter) (work : Bool) → Among meter (meters work) →
          filter (λ (t : Task). is_for_meter meter t.kind && is_among f (row groups t.group)) (map (λ other. record { group = group; kind = k.With other }) (meters work))
          ≡ cond (is_among f (row groups group)) (record { group = group; kind = k.With meter } ∷ []) []
      by Ticks true m = refl
      by Ticks false m = refl
      by Cells true m = refl
      by Cells false m = refl
      by Work true m = refl
      by Work false m = absurd (no_work m)

    of_group : (group : ℕ) (fs : List ℕ) → filter is_it (group_tasks rs d work group fs) ≡ cond (is_among f (row groups group)) (task group ∷ []) []
    of_group group fs = filter-append is_it (free_tasks rs d work group fs) (map (λ other. record { group = group; kind = k.With other }) (meters work))
        ∙ (λ i. no_free group fs i ++ of_meters group i)

    -- the groups from a place on that have the function, as tasks
    abbrev ones : ℕ → List (List ℕ) → List Task
    ones start [] = []
    ones start (fs ∷ rest) = cond (is_among f (row groups start)) (task start ∷ []) [] ++ ones (suc start) rest

    of_all : (start : ℕ) (rest : List (List ℕ)) → filter is_it (tasks_from rs d work start rest) ≡ ones start rest
    of_all start [] = refl
    of_all start (fs ∷ rest) = filter-append is_it (group_tasks rs d work start fs) (tasks_from rs d work (suc start) rest)
        ∙ (λ i. of_group start fs i ++ of_all (suc start) rest i)

    module _ (P : Prog) where
      -- what functions that came before reach came before
      abbrev IsClosed : List ℕ → Type 0
      IsClosed before = (g h : ℕ) → Contains before g → Reaches P g h → Contains before h

      among_here : (fs : List ℕ) → is_among f fs ≡ true → Among f fs
      among_here [] e = absurd (apart (sym e))
      among_here (g ∷ fs) e = at (nat_eq f g) refl e (among_here fs) where
        at : (b : Bool) → nat_eq f g ≡ b → (b || is_among f fs) ≡ true → (is_among f fs ≡ true → Among f fs) → Among f (g ∷ fs)
        at true q e go = inl (sym (eqb-true f g q))
        at false q e go = inr (go e)

      here_among : (fs : List ℕ) → Among f fs → is_among f fs ≡ true
      here_among [] m = absurd m
      here_among (g ∷ fs) (inl e) = at (nat_eq f g) refl where
        at : (b : Bool) → nat_eq f g ≡ b → (b || is_among f fs) ≡ true
        at true q = refl
        at false q = absurd (apart (sym (eq-eqb f g (sym e)) ∙ q))
      here_among (g ∷ fs) (inr m) = at (nat_eq f g) (here_among fs m) where
        at : (b : Bool) → is_among f fs ≡ true → (b || is_among f fs) ≡ true
        at true q = refl
        at false q = q

      among_is : (fs : List ℕ) → is_among f fs ≡ true → Contains fs f
      among_is fs e = among_contains f fs (among_here fs e)

      is_there : (fs : List ℕ) → Contains fs f → is_among f fs ≡ true
      is_there fs c = here_among fs (contains_among f fs c)

      closed_more : (before group : List ℕ) → ComesNext P before group → IsClosed before → IsClosed (before ++ group)
      closed_more before group c closed g h came r =
          ⊎_elim (λ m. among_contains h (before ++ group) (among_left h before group (contains_among h before (closed g h (among_contains g before m) r))))
          (λ m. among_contains h (before ++ group) (let t = (c.members g).0 (among_contains g group m) in let all = reaches_more P t.0 r in
          ⊎_elim (λ b. among_left h before group (contains_among h before b)) (λ back. among_right h before group (contains_among h group ((c.members h).1 (all, back)))) (c.may_come.ready h all)))
          (among_either g before group (contains_among g (before ++ group) came))

      -- a function that came before is in no group that comes
      not_in : (before group : List ℕ) → ComesNext P before group → IsClosed before → Contains before f → is_among f group ≡ false
      not_in before group c closed came = by (is_among f group) refl where
        by : (b : Bool) → is_among f group ≡ b → b ≡ false
        by false e = refl
        by true e = absurd (c.may_come.new (closed f c.least came ((c.members f).0 (among_is group e)).1))

      none_come : (before : List ℕ) (start : ℕ) (rest : List (List ℕ)) → ((j : ℕ) → row groups (start + j) ≡ row rest j) → AreInOrder P before rest → IsClosed before → Contains before f → ones start rest ≡ []
      none_come before start [] at h closed came = refl
      none_come before start (fs ∷ rest) at h closed came = (λ i. cond (first i) (task start ∷ []) [] ++ ones (suc start) rest)
          ∙ none_come (before ++ fs) (suc start) rest (λ j. ap (row groups) (omega arith) ∙ at (suc j)) h.1 (closed_more before fs h.0 closed)
          (among_contains f (before ++ fs) (among_left f before fs (contains_among f before came))) where
            first : is_among f (row groups start) ≡ false
            first = ap (is_among f) (ap (row groups) (omega arith) ∙ at 0) ∙ not_in before fs h.0 closed came

      one_comes : (before : List ℕ) (start : ℕ) (rest : List (List ℕ)) → ((j : ℕ) → row groups (start + j) ≡ row rest j) → AreInOrder P before rest → IsClosed before → f < length P →
          (Contains before f → ⊥) → (group : ℕ) × (ones start rest ≡ task group ∷ [])
      one_comes before start [] at h closed low new = absurd (new (h f low))
      one_comes before start (fs ∷ rest) at h closed low new =
          by (one_comes (before ++ fs) (suc start) rest (λ j. ap (row groups) (omega arith) ∙ at (suc j)) h.1 (closed_more before fs h.0 closed) low) (is_among f fs) refl where
            same : is_among f (row groups start) ≡ is_among f fs
            same = ap (is_among f) (ap (row groups) (omega arith) ∙ at 0)

            next : (j : ℕ) → row groups (suc start + j) ≡ row rest j
            next j = ap (row groups) (omega arith) ∙ at (suc j)

            by : ((Contains (before ++ fs) f → ⊥) → (group : ℕ) × (ones (suc start) rest ≡ task group ∷ [])) →
                (b : Bool) → is_among f fs ≡ b → (group : ℕ) × (ones start (fs ∷ rest) ≡ task group ∷ [])
            by go true e = (
              start,
              (λ i. cond ((same ∙ e) i) (task start ∷ []) [] ++ ones (suc start) rest)
                  ∙ ap (λ l. task start ∷ l) (none_come (before ++ fs) (suc start) rest next h.1 (closed_more before fs h.0 closed)
                  (among_contains f (before ++ fs) (among_right f before fs (contains_among f fs (among_is fs e))))),
            )
            by go false e =
                let r = go (λ c. ⊎_elim (λ m. new (among_contains f before m)) (λ m. apart (sym (is_there fs (among_contains f fs m)) ∙ e)) (among_either f before fs (contains_among f (before ++ fs) c))) in
                (r.0, (λ i. cond ((same ∙ e) i) (task start ∷ []) [] ++ ones (suc start) rest) ∙ r.1)

      pub one_task : AreInOrder P [] groups → f < length P → (group : ℕ) × (filter is_it (tasks_from rs d work 0 groups) ≡ task group ∷ [])
      one_task h low =
          let r = one_comes [] 0 groups (λ j. ap (row groups) (omega arith)) h (λ g h c. absurd (none_there g c)) low (none_there f) in
          (r.0, of_all 0 groups ∙ r.1) where
            none_there : (g : ℕ) → Contains [] g → ⊥
            none_there g c = contains_among g [] c

-- Each group has a block for each meter.
use Rattle.std.proofs.Common.{◌≡◌, ℕ, zero, suc, ◌+◌, cond, Bool, true, false, List, [], ◌∷◌, ◌++◌, map, take, slice_get, Option, Some, None, refl, sym, ap, ◌∙◌, arith}
use Rattle.std.specs.Option.{unwrap_or}
use Rattle.raml_syntax.specs.Tree.{Type'}
use Rattle.cost_free.specs.declared.task.Meter.{Meter}
use Rattle.cost_free.specs.Task as k
use Rattle.cost_free.specs.Task.{Kind, Task, Outcome}
use Rattle.cost_free.specs.Schedule.{meters, free_tasks, group_tasks, tasks_from, is_left_out, next_of}
use Rattle.cost_free.specs.Blocked.{is_among}
use Rattle.annot_types.specs.Program.{Program, members, results}
use Rattle.annot_types.specs.Certificate.{Block, Certificate, has_work, outcome}
use Rattle.annot_types.specs.Held.{Held}
use Rattle.infer_spec.specs.Lines.{IsBlockOf, BlocksAreThere}
use Rattle.annot_types.proofs.Lists.{some_is, map_get, map_inv, take_map}

-- a task with cost is never left out
pub never_left : (meter : Meter) (past : List Outcome) (kind : Kind) → kind ≡ k.With meter → is_left_out past kind ≡ true → ⊥
never_left meter past kind e h = by past (sym (ap (is_left_out past) e) ∙ h)
  where
    by : (past : List Outcome) → is_left_out past (k.With meter) ≡ true → ⊥
    by [] h = cc
    by (o ∷ past) h = cc

-- Each outcome is of the schedule's next task, and after all of them there is none.
pub record IsWhole (ts : List Task) (past rest : List Outcome) : Type 0 where
  pub tasks : (i : ℕ) (o : Outcome) → slice_get rest i ≡ Some o → next_of ts past (take i rest) ≡ Some o.0
  pub over : next_of ts past rest ≡ None

-- an outcome of the task
pub record HasCome (rest : List Outcome) (task : Task) : Type 0 where
  pub place : ℕ
  pub out : Outcome
  pub there : slice_get rest place ≡ Some out
  pub is : out.0 ≡ task

module _ (meter : Meter) where
  -- a task that is left out is not the one
  past_it : (t : Task) (ts : List Task) (past : List Outcome) (i : ℕ) (task : Task) → is_left_out past t.kind ≡ true → slice_get (t ∷ ts) i ≡ Some task → task.kind ≡ k.With meter →
      (j : ℕ) × (slice_get ts j ≡ Some task)
  past_it t ts past zero task q e kind = absurd (never_left meter past t.kind (ap (λ (v : Task). v.kind) (some_is t task e) ∙ kind) q)
  past_it t ts past (suc i) task q e kind = (i, e)

  -- so each task with cost has come
  all_come : (ts : List Task) (past rest : List Outcome) → IsWhole ts past rest → (i : ℕ) (task : Task) → slice_get ts i ≡ Some task → task.kind ≡ k.With meter → HasCome rest task
  all_come [] past rest h i task e kind = absurd (cc)
  all_come (t ∷ ts) past [] h i task e kind = by (is_left_out past t.kind) refl (all_come ts past [])
    where
      by : (is : Bool) → is_left_out past t.kind ≡ is → (IsWhole ts past [] → (i : ℕ) (task : Task) → slice_get ts i ≡ Some task → task.kind ≡ k.With meter → HasCome [] task) → HasCome [] task
      by false q go = absurd (let w : Some t ≡ None = (λ i. cond (sym q i) (next_of ts past []) (Some t)) ∙ h.over in cc)
      by true q go =
          let at = past_it t ts past i task q e kind in
          go (record { tasks = λ i o g. absurd (cc); over = (λ i. cond (sym q i) (next_of ts past []) (Some t)) ∙ h.over }) at.0 task at.1 kind
  all_come (t ∷ ts) past (o ∷ rest) h i task e kind = by (is_left_out past t.kind) refl (all_come ts past (o ∷ rest)) (all_come ts (o ∷ past) rest)
    where
      skipped : is_left_out past t.kind ≡ true → IsWhole ts past (o ∷ rest)
      skipped q = record { tasks = at; over = (λ i. cond (sym q i) (next_of ts past (o ∷ rest)) (next_of ts (o ∷ past) rest)) ∙ h.over }
        where
          at : (j : ℕ) (out : Outcome) → slice_get (o ∷ rest) j ≡ Some out → next_of ts past (take j (o ∷ rest)) ≡ Some out.0
          at zero out g = (λ i. cond (sym q i) (next_of ts past []) (Some t)) ∙ h.tasks zero out g
          at (suc j) out g = (λ i. cond (sym q i) (next_of ts past (o ∷ take j rest)) (next_of ts (o ∷ past) (take j rest))) ∙ h.tasks (suc j) out g

      later : is_left_out past t.kind ≡ false → IsWhole ts (o ∷ past) rest
      later q = record {
        tasks = λ j out g. (λ i. cond (sym q i) (next_of ts past (o ∷ take j rest)) (next_of ts (o ∷ past) (take j rest))) ∙ h.tasks (suc j) out g;
        over = (λ i. cond (sym q i) (next_of ts past (o ∷ rest)) (next_of ts (o ∷ past) rest)) ∙ h.over;
      }

      first : is_left_out past t.kind ≡ false → t ≡ o.0
      first q = some_is t o.0 ((λ i. cond (sym q i) (next_of ts past []) (Some t)) ∙ h.tasks zero o refl)

      from : is_left_out past t.kind ≡ false → ((i : ℕ) (task : Task) → slice_get ts i ≡ Some task → task.kind ≡ k.With meter → HasCome rest task) → (i : ℕ) → slice_get (t ∷ ts) i ≡ Some task → HasCome (o ∷ rest) task
      from q go zero e = record { place = zero; out = o; there = refl; is = sym (first q) ∙ some_is t task e }
      from q go (suc i) e = let g = go i task e kind in record { place = suc g.place; out = g.out; there = g.there; is = g.is }

      by : (is : Bool) → is_left_out past t.kind ≡ is →
          (IsWhole ts past (o ∷ rest) → (i : ℕ) (task : Task) → slice_get ts i ≡ Some task → task.kind ≡ k.With meter → HasCome (o ∷ rest) task) →
          (IsWhole ts (o ∷ past) rest → (i : ℕ) (task : Task) → slice_get ts i ≡ Some task → task.kind ≡ k.With meter → HasCome rest task) → HasCome (o ∷ rest) task
      by true q go on = let at = past_it t ts past i task q e kind in go (skipped q) at.0 task at.1 kind
      by false q go on = from q (on (later q)) i e

pub in_left : {X : Type 0} (xs ys : List X) (x : X) (i : ℕ) → slice_get xs i ≡ Some x → (j : ℕ) × (slice_get (xs ++ ys) j ≡ Some x)
in_left [] ys x i e = absurd (cc)
in_left (z ∷ xs) ys x zero e = (zero, e)
in_left (z ∷ xs) ys x (suc i) e = let r = in_left xs ys x i e in (suc r.0, r.1)

pub in_right : {X : Type 0} (xs ys : List X) (x : X) (i : ℕ) → slice_get ys i ≡ Some x → (j : ℕ) × (slice_get (xs ++ ys) j ≡ Some x)
in_right [] ys x i e = (i, e)
in_right (z ∷ xs) ys x i e = let r = in_right xs ys x i e in (suc r.0, r.1)

-- the tasks with cost of a group are among all
group_has : (rs : List Type') (d : ℕ) (work : Bool) (start : ℕ) (groups : List (List ℕ)) (n : ℕ) (fs : List ℕ) → slice_get groups n ≡ Some fs → (i : ℕ) (meter : Meter) →
    slice_get (meters work) i ≡ Some meter → (j : ℕ) × (slice_get (tasks_from rs d work start groups) j ≡ Some (record { group = start + n; kind = k.With meter }))
group_has rs d work start [] n fs there i meter e = absurd (cc)
group_has rs d work start (gs ∷ groups) zero fs there i meter e =
    let one = map_get (λ (o : Meter). record { group = start; kind = k.With o }) (meters work) i meter e in
    let two = in_right (free_tasks rs d work start gs) (map (λ (o : Meter). record { group = start; kind = k.With o }) (meters work)) _ i one in
    let three = in_left (group_tasks rs d work start gs) (tasks_from rs d work (suc start) groups) _ two.0 two.1 in
    (three.0, three.1 ∙ (λ j. Some (record { group = same start j; kind = k.With meter })))
  where
    same : (n : ℕ) → n ≡ n + 0
    same n = omega arith
group_has rs d work start (gs ∷ groups) (suc n) fs there i meter e =
    let rest = group_has rs d work (suc start) groups n fs there i meter e in
    let all = in_right (group_tasks rs d work start gs) (tasks_from rs d work (suc start) groups) _ rest.0 rest.1 in
    (all.0, all.1 ∙ (λ j. Some (record { group = same start n j; kind = k.With meter })))
  where
    same : (m n : ℕ) → suc m + n ≡ m + suc n
    same m n = omega arith

-- the blocks of a held certificate are a whole run
pub whole : (P : Program) (c : Certificate) → Held P c → IsWhole (tasks_from (results P) c.degree (has_work c) 0 P.groups) [] (map outcome c.blocks)
whole P c held = record {
  tasks = λ i o g.
      let b = map_inv outcome c.blocks i o g in
      ap (next_of (tasks_from (results P) c.degree (has_work c) 0 P.groups) []) (take_map outcome i c.blocks) ∙ (let placed = held.blocks i b.0 b.1 in placed.task)
      ∙ ap (λ (o : Outcome). Some o.0) b.2;
  over = held.ended;
}

pub blocks_are_there : BlocksAreThere
blocks_are_there P c held group f member i meter e =
    let fs = group_there (slice_get P.groups group) refl member in
    let one = group_has (results P) c.degree (has_work c) 0 P.groups group fs.0 fs.1 i meter e in
    let task : Task = record { group = group; kind = k.With meter } in
    let come = all_come meter (tasks_from (results P) c.degree (has_work c) 0 P.groups) [] (map outcome c.blocks) (whole P c held) one.0 task (one.1 ∙ (λ j. Some (record { group = zero_plus group j; kind = k.With meter }))) refl in
    let found = map_inv outcome c.blocks come.place come.out come.there in
    told come.place found.0 found.1 (ap (λ (o : Outcome). o.0) found.2 ∙ come.is)
  where
    zero_plus : (n : ℕ) → 0 + n ≡ n
    zero_plus n = omega arith

    told : (place : ℕ) (block : Block) → slice_get c.blocks place ≡ Some block → block.task ≡ record { group = group; kind = k.With meter } →
        (place : ℕ) × (block : Block) × IsBlockOf P c f meter place block × (block.task.group ≡ group)
    told place block there same = (
      place,
      block,
      record { there = there; kind = ap (λ (t : Task). t.kind) same; has = ap (λ (t : Task). is_among f (members P t.group)) same ∙ member },
      ap (λ (t : Task). t.group) same,
    )

    group_there : (o : Option (List ℕ)) → slice_get P.groups group ≡ o → is_among f (unwrap_or o []) ≡ true → (fs : List ℕ) × (slice_get P.groups group ≡ Some fs)
    group_there None e h = absurd (cc)
    group_there (Some fs) e h = (fs, e)

-- Where a task is the next one, a task of each earlier group has come.
use Rattle.std.proofs.Common.{◌≡◌, ℕ, zero, suc, ◌+◌, ◌≤◌, ◌<◌, cond, Bool, true, false, nat_eq, nat_le, List, [], ◌∷◌, ◌++◌, map, flat_map, take, drop, length, slice_get, Some, refl, sym, ap, ◌∙◌, subst, arith}
use Rattle.std.specs.List.{range_with_len, list_any}
use Rattle.std.proofs.lemmas.Bool.{eqb-true, eq-eqb}
use Rattle.raml_syntax.specs.Tree.{Type'}
use Rattle.cost_free.specs.declared.task.Meter.{Meter}
use Rattle.cost_free.specs.declared.task.Meter.TheVariants.{Ticks}
use Rattle.cost_free.specs.Task as k
use Rattle.cost_free.specs.Task.{Free, Task, Outcome}
use Rattle.cost_free.specs.Target.{Target, degree_of}
use Rattle.cost_free.specs.Blocked.{row}
use Rattle.cost_free.specs.Schedule.{meters, targets_at, tasks_for, free_tasks, group_tasks, tasks_from, is_left_out, next_of}
use Rattle.cost_free.specs.Refused.{Plan, next_in, any_has_more, IsRefused}
use Rattle.annot_types.specs.Certificate.{Block, outcome}
use Rattle.annot_types.proofs.Lists.{some_is, length_map, map_inv, take_map}
use Rattle.infer_spec.proofs.Asked.{AllTasks, both, each}
use Rattle.infer_spec.proofs.Present.{HasCome, never_left, in_left, in_right}

-- each outcome is of the schedule's next task
pub record Follows (ts : List Task) (past rest : List Outcome) : Type 0 where
  pub tasks : (i : ℕ) (o : Outcome) → slice_get rest i ≡ Some o → next_of ts past (take i rest) ≡ Some o.0

module _ (ys : List Task) (task u : Task) (meter : Meter) (of_meter : u.kind ≡ k.With meter) where
  -- the next task stands behind these, so each of them that has cost has come
  come_before : (xs : List Task) (past rest : List Outcome) → Follows (xs ++ ys) past rest → next_of (xs ++ ys) past rest ≡ Some task →
      AllTasks (λ t. t ≡ task → ⊥) xs → (i : ℕ) → slice_get xs i ≡ Some u → HasCome rest u
  come_before [] past rest h e none i there = absurd (cc)
  come_before (t ∷ xs) past [] h e none i there = by (is_left_out past t.kind) refl (come_before xs past [])
    where
      by : (is : Bool) → is_left_out past t.kind ≡ is → (Follows (xs ++ ys) past [] → next_of (xs ++ ys) past [] ≡ Some task → AllTasks (λ t. t ≡ task → ⊥) xs → (i : ℕ) → slice_get xs i ≡ Some u → HasCome [] u) →
          HasCome [] u
      by false q go = absurd (none.0 (some_is t task (sym (λ i. cond (q i) (next_of (xs ++ ys) past []) (Some t)) ∙ e)))
      by true q go = at i there
        where
          at : (i : ℕ) → slice_get (t ∷ xs) i ≡ Some u → HasCome [] u
          at zero there = absurd (never_left meter past t.kind (ap (λ (v : Task). v.kind) (some_is t u there) ∙ of_meter) q)
          at (suc i) there = go (record { tasks = λ i o g. absurd (cc) }) (sym (λ i. cond (q i) (next_of (xs ++ ys) past []) (Some t)) ∙ e) none.1 i there
  come_before (t ∷ xs) past (o ∷ rest) h e none i there = by (is_left_out past t.kind) refl (come_before xs past (o ∷ rest)) (come_before xs (o ∷ past) rest)
    where
      skipped : is_left_out past t.kind ≡ true → Follows (xs ++ ys) past (o ∷ rest)
      skipped q = record { tasks = at }
        where
          at : (j : ℕ) (out : Outcome) → slice_get (o ∷ rest) j ≡ Some out → next_of (xs ++ ys) past (take j (o ∷ rest)) ≡ Some out.0
          at zero out g = (λ i. cond (sym q i) (next_of (xs ++ ys) past []) (Some t)) ∙ h.tasks zero out g
          at (suc j) out g = (λ i. cond (sym q i) (next_of (xs ++ ys) past (o ∷ take j rest)) (next_of (xs ++ ys) (o ∷ past) (take j rest))) ∙ h.tasks (suc j) out g

      later : is_left_out past t.kind ≡ false → Follows (xs ++ ys) (o ∷ past) rest
      later q = record { tasks = λ j out g. (λ i. cond (sym q i) (next_of (xs ++ ys) past (o ∷ take j rest)) (next_of (xs ++ ys) (o ∷ past) (take j rest))) ∙ h.tasks (suc j) out g }

      first : is_left_out past t.kind ≡ false → t ≡ o.0
      first q = some_is t o.0 ((λ i. cond (sym q i) (next_of (xs ++ ys) past []) (Some t)) ∙ h.tasks zero o refl)

      by : (is : Bool) → is_left_out past t.kind ≡ is →
          (Follows (xs ++ ys) past (o ∷ rest) → next_of (xs ++ ys) past (o ∷ rest) ≡ Some task → AllTasks (λ t. t ≡ task → ⊥) xs → (i : ℕ) → slice_get xs i ≡ Some u → HasCome (o ∷ rest) u) →
          (Follows (xs ++ ys) (o ∷ past) rest → next_of (xs ++ ys) (o ∷ past) rest ≡ Some task → AllTasks (λ t. t ≡ task → ⊥) xs → (i : ℕ) → slice_get xs i ≡ Some u → HasCome rest u) → HasCome (o ∷ rest) u
      by true q go on = at i there
        where
          at : (i : ℕ) → slice_get (t ∷ xs) i ≡ Some u → HasCome (o ∷ rest) u
          at zero there = absurd (never_left meter past t.kind (ap (λ (v : Task). v.kind) (some_is t u there) ∙ of_meter) q)
          at (suc i) there = go (skipped q) (sym (λ i. cond (q i) (next_of (xs ++ ys) past (o ∷ rest)) (next_of (xs ++ ys) (o ∷ past) rest)) ∙ e) none.1 i there
      by false q go on = at i there
        where
          at : (i : ℕ) → slice_get (t ∷ xs) i ≡ Some u → HasCome (o ∷ rest) u
          at zero there = record { place = zero; out = o; there = refl; is = sym (first q) ∙ some_is t u there }
          at (suc i) there =
              let g = on (later q) (sym (λ i. cond (q i) (next_of (xs ++ ys) past (o ∷ rest)) (next_of (xs ++ ys) (o ∷ past) rest)) ∙ e) none.1 i there in
              record { place = suc g.place; out = g.out; there = g.there; is = g.is }

append_assoc : {X : Type 0} (xs ys zs : List X) → (xs ++ ys) ++ zs ≡ xs ++ (ys ++ zs)
append_assoc [] ys zs = refl
append_assoc (x ∷ xs) ys zs = ap (λ l. x ∷ l) (append_assoc xs ys zs)

taken_dropped : {X : Type 0} (n : ℕ) (xs : List X) → xs ≡ take n xs ++ drop n xs
taken_dropped zero xs = refl
taken_dropped (suc n) [] = refl
taken_dropped (suc n) (x ∷ xs) = ap (λ l. x ∷ l) (taken_dropped n xs)

module _ (rs : List Type') (d : ℕ) (work : Bool) where
  tasks_split : (start : ℕ) (as' bs : List (List ℕ)) → tasks_from rs d work start (as' ++ bs) ≡ tasks_from rs d work start as' ++ tasks_from rs d work (start + length as') bs
  tasks_split start [] bs = ap (λ n. tasks_from rs d work n bs) (omega arith)
  tasks_split start (g ∷ gs) bs =
      ap (λ l. group_tasks rs d work start g ++ l) (tasks_split (suc start) gs bs ∙ ap (λ n. tasks_from rs d work (suc start) gs ++ tasks_from rs d work n bs) (omega arith))
      ∙ sym (append_assoc (group_tasks rs d work start g) (tasks_from rs d work (suc start) gs) (tasks_from rs d work (start + suc (length gs)) bs))

  ticks_there : (start : ℕ) (groups : List (List ℕ)) (n : ℕ) → n < length groups →
      (j : ℕ) × (slice_get (tasks_from rs d work start groups) j ≡ Some (record { group = start + n; kind = k.With Ticks }))
  ticks_there start [] n l = absurd (omega (arith, l))
  ticks_there start (g ∷ gs) zero l =
      let two = in_right (free_tasks rs d work start g) (map (λ (o : Meter). record { group = start; kind = k.With o }) (meters work)) (record { group = start; kind = k.With Ticks }) 0 refl in
      let three = in_left (group_tasks rs d work start g) (tasks_from rs d work (suc start) gs) _ two.0 two.1 in
      (three.0, three.1 ∙ (λ j. Some (record { group = same start j; kind = k.With Ticks })))
    where
      same : (n : ℕ) → n ≡ n + 0
      same n = omega arith
  ticks_there start (g ∷ gs) (suc n) l =
      let rest = ticks_there (suc start) gs n (omega (arith, l)) in
      let all = in_right (group_tasks rs d work start g) (tasks_from rs d work (suc start) gs) _ rest.0 rest.1 in
      (all.0, all.1 ∙ (λ j. Some (record { group = same start n j; kind = k.With Ticks })))
    where
      same : (m n : ℕ) → suc m + n ≡ m + suc n
      same m n = omega arith

  module _ (Q : ℕ → Type 0) where
    free_are : (group budget fun number : ℕ) (ts : List Target) → Q group → AllTasks (λ t. Q t.group) (tasks_for rs d work group budget fun number ts)
    free_are group budget fun number [] q = tt
    free_are group budget fun number (t ∷ ts) q = both (λ t. Q t.group) _ _ (by (nat_le (degree_of t) budget)) (free_are group budget fun (suc number) ts q)
      where
        by : (b : Bool) → AllTasks (λ t. Q t.group) (cond b (record { group = group; kind = Free budget fun number } ∷ []) [])
        by true = (q, tt)
        by false = tt

    meters_are : (group : ℕ) (ms : List Meter) → Q group → AllTasks (λ t. Q t.group) (map (λ meter. record { group = group; kind = k.With meter }) ms)
    meters_are group [] q = tt
    meters_are group (m ∷ ms) q = (q, meters_are group ms q)

    group_are : (group : ℕ) (fs : List ℕ) → Q group → AllTasks (λ t. Q t.group) (group_tasks rs d work group fs)
    group_are group fs q = both (λ t. Q t.group) _ _
        (each (λ t. Q t.group) (λ budget. flat_map (λ fun. tasks_for rs d work group budget fun 0 (targets_at (slice_get rs fun) d)) fs)
        (λ budget. each (λ t. Q t.group) (λ fun. tasks_for rs d work group budget fun 0 (targets_at (slice_get rs fun) d)) (λ fun. free_are group budget fun 0 (targets_at (slice_get rs fun) d) q) fs)
        (range_with_len 0 (suc d)))
        (meters_are group (meters work) q)

    tasks_are : (start : ℕ) (groups : List (List ℕ)) → ((n : ℕ) → n < length groups → Q (start + n)) → AllTasks (λ t. Q t.group) (tasks_from rs d work start groups)
    tasks_are start [] q = tt
    tasks_are start (g ∷ gs) q = both (λ t. Q t.group) _ _
        (group_are start g (let h = q 0 (omega arith) in subst Q (same start) h))
        (tasks_are (suc start) gs (λ n l. subst Q (next start n) (q (suc n) (omega (arith, l)))))
      where
        same : (n : ℕ) → n + 0 ≡ n
        same n = omega arith

        next : (m n : ℕ) → m + suc n ≡ suc m + n
        next m n = omega arith

  taken_length : {X : Type 0} (n : ℕ) (xs : List X) → n ≤ length xs → length (take n xs) ≡ n
  taken_length zero xs l = refl
  taken_length (suc n) [] l = absurd (omega (arith, l))
  taken_length (suc n) (x ∷ xs) l = ap suc (taken_length n xs (omega (arith, l)))

  -- a task for ticks of each earlier group has come
  pub earlier_come : (groups : List (List ℕ)) (done : List Outcome) (task : Task) → Follows (tasks_from rs d work 0 groups) [] done → next_of (tasks_from rs d work 0 groups) [] done ≡ Some task →
      (g : ℕ) → g < task.group → g < length groups → HasCome done (record { group = g; kind = k.With Ticks })
  earlier_come groups done task h e g l inside =
      let count : length (take (suc g) groups) ≡ suc g = taken_length (suc g) groups (omega (arith, inside)) in
      let split : tasks_from rs d work 0 groups ≡ tasks_from rs d work 0 (take (suc g) groups) ++ tasks_from rs d work (0 + length (take (suc g) groups)) (drop (suc g) groups) =
      ap (tasks_from rs d work 0) (taken_dropped (suc g) groups) ∙ tasks_split 0 (take (suc g) groups) (drop (suc g) groups) in
      let there = ticks_there 0 (take (suc g) groups) g (omega (arith, count)) in
      let low = tasks_are (λ n. n < task.group) 0 (take (suc g) groups) (λ n m. omega (arith, m, l, count)) in
      come_before (tasks_from rs d work (0 + length (take (suc g) groups)) (drop (suc g) groups)) task (record { group = g; kind = k.With Ticks }) Ticks refl (tasks_from rs d work 0 (take (suc g) groups)) [] done
      (subst (λ ts. Follows ts [] done) split h) (sym (ap (λ ts. next_of ts [] done) split) ∙ e) (apart (tasks_from rs d work 0 (take (suc g) groups)) low)
      there.0 (there.1 ∙ (λ i. Some (record { group = zero_plus g i; kind = k.With Ticks })))
    where
      zero_plus : (n : ℕ) → 0 + n ≡ n
      zero_plus n = omega arith

      apart : (ts : List Task) → AllTasks (λ t. t.group < task.group) ts → AllTasks (λ t. t ≡ task → ⊥) ts
      apart [] h = tt
      apart (t ∷ ts) h = ((λ e. (let same = ap (λ (v : Task). v.group) e in let l = h.0 in absurd (omega (arith, same, l)))), apart ts h.1)

-- Blocks that came as the schedule says, at each of which it went on
pub record GoesOn (plan : Plan) (blocks : List Block) : Type 0 where
  pub tasks : (n : ℕ) (b : Block) → slice_get blocks n ≡ Some b → next_in plan (map outcome (take n blocks)) ≡ Some b.task
  pub goes : (n : ℕ) (b : Block) → slice_get blocks n ≡ Some b → IsRefused 2000 plan (map outcome (take n blocks)) → ⊥

-- the first block of a group
record IsFirst (blocks : List Block) (group : ℕ) : Type 0 where
  place : ℕ
  block : Block
  there : slice_get blocks place ≡ Some block
  is : block.task.group ≡ group
  before : (m : ℕ) (b : Block) → m < place → slice_get blocks m ≡ Some b → b.task.group ≡ group → ⊥

differs : (m n : ℕ) → nat_eq m n ≡ false → m ≡ n → ⊥
differs m n q e = let t = eq-eqb m n e in let wrong : true ≡ false = sym t ∙ q in cc

first_of : (blocks : List Block) (group k : ℕ) (b : Block) → slice_get blocks k ≡ Some b → b.task.group ≡ group → IsFirst blocks group
first_of [] group k b e is = absurd (cc)
first_of (x ∷ blocks) group k b e is = by (nat_eq x.task.group group) refl (first_of blocks group) k e
  where
    by : (c : Bool) → nat_eq x.task.group group ≡ c → ((k : ℕ) (b : Block) → slice_get blocks k ≡ Some b → b.task.group ≡ group → IsFirst blocks group) →
        (k : ℕ) → slice_get (x ∷ blocks) k ≡ Some b → IsFirst (x ∷ blocks) group
    by true q rest k e = record { place = 0; block = x; there = refl; is = eqb-true x.task.group group q; before = λ m c l. absurd (omega (arith, l)) }
    by false q rest zero e = absurd (differs x.task.group group q (ap (λ (c : Block). c.task.group) (some_is x b e) ∙ is))
    by false q rest (suc k) e =
        let f = rest k b e is in
        record { place = suc f.place; block = f.block; there = f.there; is = f.is; before = at f }
      where
        at : (f : IsFirst blocks group) (m : ℕ) (c : Block) → m < suc f.place → slice_get (x ∷ blocks) m ≡ Some c → c.task.group ≡ group → ⊥
        at f zero c l g is' = differs x.task.group group q (ap (λ (c : Block). c.task.group) (some_is x c g) ∙ is')
        at f (suc m) c l g is' = f.before m c (omega (arith, l)) g is'

there_before : (bs : List Block) (m n : ℕ) (b : Block) → m < n → slice_get bs n ≡ Some b → (c : Block) × (slice_get bs m ≡ Some c)
there_before [] m n b l e = absurd (cc)
there_before (x ∷ bs) zero n b l e = (x, refl)
there_before (x ∷ bs) (suc m) zero b l e = absurd (omega (arith, l))
there_before (x ∷ bs) (suc m) (suc n) b l e = there_before bs m n b (omega (arith, l)) e

take_twice : {X : Type 0} (m n : ℕ) (xs : List X) → m ≤ n → take m (take n xs) ≡ take m xs
take_twice zero n xs l = refl
take_twice (suc m) zero xs l = absurd (omega (arith, l))
take_twice (suc m) (suc n) [] l = refl
take_twice (suc m) (suc n) (x ∷ xs) l = ap (λ ys. x ∷ ys) (take_twice m n xs (omega (arith, l)))

take_short : {X : Type 0} (n : ℕ) (xs : List X) → length (take n xs) ≤ n
take_short zero xs = omega arith
take_short (suc n) [] = omega arith
take_short (suc n) (x ∷ xs) = let l = take_short n xs in omega (arith, l)

-- the function of a group that is there
row_inside : (rows : List (List ℕ)) (g : ℕ) (test : ℕ → Bool) → list_any test (row rows g) ≡ true → g < length rows
row_inside [] zero test e = absurd (cc)
row_inside [] (suc g) test e = absurd (cc)
row_inside (r ∷ rows) zero test e = omega arith
row_inside (r ∷ rows) (suc g) test e = let l = row_inside rows g test e in omega (arith, l)

-- So no earlier group is too large.
pub none_large : (plan : Plan) (blocks : List Block) → GoesOn plan blocks → (task : Task) → next_in plan (map outcome blocks) ≡ Some task →
    (g : ℕ) → g < task.group → any_has_more 2000 plan (row plan.groups g) ≡ true → ⊥
none_large plan blocks h task e g l large =
    let follows : Follows (tasks_from plan.results plan.degree plan.work 0 plan.groups) [] (map outcome blocks) = record {
      tasks = λ i o there. (
          let b = map_inv outcome blocks i o there in
          ap (next_of (tasks_from plan.results plan.degree plan.work 0 plan.groups) []) (take_map outcome i blocks) ∙ h.tasks i b.0 b.1 ∙ ap (λ (o : Outcome). Some o.0) b.2);
    } in
    let come = earlier_come plan.results plan.degree plan.work plan.groups (map outcome blocks) task follows e g l (row_inside plan.groups g _ large) in
    let found = map_inv outcome blocks come.place come.out come.there in
    let is : (found.0).task.group ≡ g = ap (λ (o : Outcome). o.0.group) found.2 ∙ ap (λ (t : Task). t.group) come.is in
    let one = first_of blocks g come.place found.0 found.1 is in
    h.goes one.place one.block one.there (record {
      task = one.block.task;
      is_next = h.tasks one.place one.block one.there;
      is_first = λ m earlier low next same. (
          let n = length_map outcome (take one.place blocks) in
          let short = take_short one.place blocks in
          let less : m < one.place = omega (arith, low, n, short) in
          let b = there_before blocks m one.place one.block less one.there in
          let here = sym (h.tasks m b.0 b.1) ∙ ap (next_in plan) (sym (take_map outcome m (take one.place blocks) ∙ ap (map outcome) (take_twice m one.place blocks (omega (arith, less))))) ∙ next in
          one.before m b.0 less b.1 (ap (λ (t : Task). t.group) (some_is (b.0).task earlier here) ∙ same ∙ one.is));
      is_large = ap (λ n. any_has_more 2000 plan (row plan.groups n)) one.is ∙ large;
    })

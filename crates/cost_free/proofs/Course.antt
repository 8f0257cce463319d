-- What a walk over the schedule tells.
use Rattle.std.proofs.Common.{◌≡◌, ◌<◌, ◌≤◌, ◌+◌, ℕ, zero, suc, Bool, true, false, cond, List, [], ◌∷◌, ◌++◌, map, flat_map, length, take, drop, Option, None, Some, slice_get}
use Rattle.std.proofs.Common.{refl, sym, ap, ◌∙◌, subst, arith, append_assoc, append-nil, length-append, nat_le, ◌⊎◌, inl, inr}
use Rattle.std.specs.Option.{unwrap_or}
use Rattle.std.specs.List.{range_with_len}
use Rattle.std.proofs.Math.Seq.{take-append_seam}
use Rattle.std.proofs.lemmas.List.{take-append-le}
use Rattle.raml_syntax.specs.Tree.{Type'}
use Rattle.cost_free.specs.declared.task.Meter.{Meter}
use Rattle.cost_free.specs.Target.{Target, degree_of}
use Rattle.cost_free.specs.Task.{Task, Kind, Free, With, Outcome, Ticks, Cells, Work}
use Rattle.cost_free.specs.Blocked.{row}
use Rattle.cost_free.specs.Schedule.{targets_at, tasks_for, free_tasks, group_tasks, tasks_from, meters, is_left_out, next_of}
use Rattle.cost_free.specs.Refused.{Plan, next_in, any_has_more, IsRefused}
use Rattle.cost_free.specs.Walk.{Place, Knows, is_solved, open_from, first, into, at, advanced, passed, AreOf, HasCome, Fits, MayEnter, CantEnter, Taken, StaysAt, Stands}

-- One step of the schedule

passes : (c : Task) (cs : List Task) (past done : List Outcome) → is_left_out past c.kind ≡ true → next_of (c ∷ cs) past done ≡ next_of cs past done
passes c cs past [] h = ap (λ b. cond b (next_of cs past []) (Some c)) h
passes c cs past (e ∷ done) h = ap (λ b. cond b (next_of cs past (e ∷ done)) (next_of cs (e ∷ past) done)) h

takes : (c : Task) (cs : List Task) (past : List Outcome) (e : Outcome) (done : List Outcome) → is_left_out past c.kind ≡ false →
    next_of (c ∷ cs) past (e ∷ done) ≡ next_of cs (e ∷ past) done
takes c cs past e done h = ap (λ b. cond b (next_of cs past (e ∷ done)) (next_of cs (e ∷ past) done)) h

stops : (c : Task) (cs : List Task) (past : List Outcome) → is_left_out past c.kind ≡ false → next_of (c ∷ cs) past [] ≡ Some c
stops c cs past h = ap (λ b. cond b (next_of cs past []) (Some c)) h

left_is : (keys : List (ℕ × ℕ)) (past : List Outcome) → Knows keys past → (kind : Kind) → is_left_out past kind ≡ is_solved keys kind
left_is keys past h (Free budget fun target) = h budget fun target
left_is keys past h (With meter) = refl

-- Tasks that are passed decide nothing

pass_one : (keys : List (ℕ × ℕ)) (past : List Outcome) (c : Task) (cs more : List Task) (done : List Outcome) (b : Bool) → is_left_out past c.kind ≡ b →
    next_of (cs ++ more) past done ≡ next_of (open_from keys cs ++ more) past done →
    next_of (c ∷ cs ++ more) past done ≡ next_of (cond b (open_from keys cs) (c ∷ cs) ++ more) past done
pass_one keys past c cs more done true e later = passes c (cs ++ more) past done e ∙ later
pass_one keys past c cs more done false e later = refl

pass : (keys : List (ℕ × ℕ)) (past : List Outcome) → Knows keys past → (cs more : List Task) (done : List Outcome) →
    next_of (cs ++ more) past done ≡ next_of (open_from keys cs ++ more) past done
pass keys past h [] more done = refl
pass keys past h (c ∷ cs) more done = pass_one keys past c cs more done (is_solved keys c.kind) (left_is keys past h c.kind) (pass keys past h cs more done)

open_one : (keys : List (ℕ × ℕ)) (x : Task) (xs : List Task) (c : Task) (cs : List Task) (b : Bool) → is_solved keys x.kind ≡ b →
    (open_from keys xs ≡ c ∷ cs → is_solved keys c.kind ≡ false) → cond b (open_from keys xs) (x ∷ xs) ≡ c ∷ cs → is_solved keys c.kind ≡ false
open_one keys x xs c cs true is later e = later e
open_one keys x xs c cs false is later e = let same : x ≡ c = cc in subst (λ (t : Task). is_solved keys t.kind ≡ false) same is

is_open : (keys : List (ℕ × ℕ)) (xs : List Task) (c : Task) (cs : List Task) → open_from keys xs ≡ c ∷ cs → is_solved keys c.kind ≡ false
is_open keys [] c cs e = absurd (cc)
is_open keys (x ∷ xs) c cs e = open_one keys x xs c cs (is_solved keys x.kind) refl (is_open keys xs c cs) e

some_of : (entered : ℕ) (b : Bool) (xs ys : List Task) → AreOf entered xs → AreOf entered ys → AreOf entered (cond b xs ys)
some_of entered true xs ys h k = h
some_of entered false xs ys h k = k

open_of : (entered : ℕ) (keys : List (ℕ × ℕ)) (xs : List Task) → AreOf entered xs → AreOf entered (open_from keys xs)
open_of entered keys [] h = tt
open_of entered keys (x ∷ xs) h = some_of entered (is_solved keys x.kind) (open_from keys xs) (x ∷ xs) (open_of entered keys xs h.1) h

-- The tasks of a group

join_of : (entered : ℕ) (xs ys : List Task) → AreOf entered xs → AreOf entered ys → AreOf entered (xs ++ ys)
join_of entered [] ys h k = k
join_of entered (x ∷ xs) ys h k = (h.0, join_of entered xs ys h.1 k)

flat_of : (entered : ℕ) (f : ℕ → List Task) → ((x : ℕ) → AreOf entered (f x)) → (xs : List ℕ) → AreOf entered (flat_map f xs)
flat_of entered f h [] = tt
flat_of entered f h (x ∷ xs) = join_of entered (f x) (flat_map f xs) (h x) (flat_of entered f h xs)

module _ (results : List Type') (d : ℕ) (work : Bool) (group : ℕ) where
  for_of : (budget fun number : ℕ) (ts : List Target) → AreOf (group + 1) (tasks_for results d work group budget fun number ts)
  for_of budget fun number [] = tt
  for_of budget fun number (t ∷ ts) =
      join_of (group + 1) (cond (nat_le (degree_of t) budget) (record { group = group; kind = Free budget fun number } ∷ []) []) (tasks_for results d work group budget fun (suc number) ts)
      (some_of (group + 1) (nat_le (degree_of t) budget) (record { group = group; kind = Free budget fun number } ∷ []) [] (refl, tt) tt)
      (for_of budget fun (suc number) ts)

  meters_of : (ms : List Meter) → AreOf (group + 1) (map (λ meter. record { group = group; kind = With meter }) ms)
  meters_of [] = tt
  meters_of (m ∷ ms) = (refl, meters_of ms)

  tasks_are_of : (funs : List ℕ) → AreOf (group + 1) (group_tasks results d work group funs)
  tasks_are_of funs = join_of (group + 1) (free_tasks results d work group funs) (map (λ meter. record { group = group; kind = With meter }) (meters work))
      (flat_of (group + 1) (λ budget. flat_map (λ fun. tasks_for results d work group budget fun 0 (targets_at (slice_get results fun) d)) funs)
      (λ budget. flat_of (group + 1) (λ fun. tasks_for results d work group budget fun 0 (targets_at (slice_get results fun) d)) (λ fun. for_of budget fun 0 (targets_at (slice_get results fun) d)) funs)
      (range_with_len 0 (suc d)))
      (meters_of (meters work))

-- an open task is found
found_one : (b : Bool) (x : Task) (xs rest : List Task) → (rest ≡ [] → ⊥) → cond b rest (x ∷ xs) ≡ [] → ⊥
found_one true x xs rest h e = h e
found_one false x xs rest h e = absurd (cc)

found : (keys : List (ℕ × ℕ)) (xs : List Task) (c : Task) (ys : List Task) → is_solved keys c.kind ≡ false → open_from keys (xs ++ c ∷ ys) ≡ [] → ⊥
found keys [] c ys h e =
    let there : c ∷ ys ≡ [] = sym (ap (λ b. cond b (open_from keys ys) (c ∷ ys)) h) ∙ e in
    absurd (cc)
found keys (x ∷ xs) c ys h e = found_one (is_solved keys x.kind) x (xs ++ c ∷ ys) (open_from keys (xs ++ c ∷ ys)) (found keys xs c ys h) e

-- Where the walk stands

drop_get : (groups : List (List ℕ)) (k : ℕ) (funs : List ℕ) → slice_get groups k ≡ Some funs → drop k groups ≡ funs ∷ drop (k + 1) groups
drop_get [] k funs e = absurd (cc)
drop_get (g ∷ groups) zero funs e = let same : g ≡ funs = cc in λ i. same i ∷ groups
drop_get (g ∷ groups) (suc k) funs e = drop_get groups k funs e ∙ ap (λ n. funs ∷ drop n (g ∷ groups)) next
  where
    next : suc (k + 1) ≡ suc k + 1
    next = omega arith

drop_none : (groups : List (List ℕ)) (k : ℕ) → slice_get groups k ≡ None → drop k groups ≡ []
drop_none [] zero e = refl
drop_none [] (suc k) e = refl
drop_none (g ∷ groups) zero e = absurd (cc)
drop_none (g ∷ groups) (suc k) e = drop_none groups k e

abbrev later : Plan → ℕ → List Task
later plan entered = tasks_from plan.results plan.degree plan.work entered (drop entered plan.groups)

abbrev tasks_at : Plan → ℕ → List ℕ → List Task
tasks_at plan entered funs = group_tasks plan.results plan.degree plan.work entered funs

some_open : (plan : Plan) (keys : List (ℕ × ℕ)) (entered : ℕ) (funs : List ℕ) → open_from keys (tasks_at plan entered funs) ≡ [] → ⊥
some_open plan keys entered funs e =
    found keys (free_tasks plan.results plan.degree plan.work entered funs) (record { group = entered; kind = With Ticks })
    (map (λ meter. record { group = entered; kind = With meter }) (Cells ∷ cond plan.work (Work ∷ []) [])) refl e

module _ (plan : Plan) (done : List Outcome) where
  come_same : (p : Place) → HasCome plan done p → (left : List Task) → open_from p.keys p.left ≡ left →
      HasCome plan done (record { keys = p.keys; entered = p.entered; left = left })
  come_same p h left e = record {
    past = h.past;
    knows = h.knows;
    decides = λ more. h.decides more ∙ pass p.keys h.past h.knows p.left (later plan p.entered) more ∙ ap (λ l. next_of (l ++ later plan p.entered) h.past more) e;
    of_group = subst (AreOf p.entered) e (open_of p.entered p.keys p.left h.of_group);
    came = h.came;
  }

  come_into : (p : Place) → HasCome plan done p → p.left ≡ [] → (funs : List ℕ) → slice_get plan.groups p.entered ≡ Some funs → HasCome plan done (into plan p (Some funs))
  come_into p h none funs is =
      let tasks = tasks_at plan p.entered funs in
      let next : suc p.entered ≡ p.entered + 1 = omega arith in
      record {
        past = h.past;
        knows = h.knows;
        decides = λ more. h.decides more
            ∙ (λ i. next_of (none i ++ tasks_from plan.results plan.degree plan.work p.entered (drop_get plan.groups p.entered funs is i)) h.past more)
            ∙ ap (λ n. next_of (tasks ++ tasks_from plan.results plan.degree plan.work n (drop (p.entered + 1) plan.groups)) h.past more) next
            ∙ pass p.keys h.past h.knows tasks (later plan (p.entered + 1)) more;
        of_group = open_of (p.entered + 1) p.keys tasks (tasks_are_of plan.results plan.degree plan.work p.entered funs);
        came = λ n t low is. let before = h.came n t low is in omega (arith, before);
      }

  next_is : (p : Place) → HasCome plan done p → (c : Task) (cs : List Task) → p.left ≡ c ∷ cs → is_solved p.keys c.kind ≡ false → next_in plan done ≡ Some c
  next_is p h c cs e unsolved =
      ap (next_in plan) (sym (append-nil done))
      ∙ h.decides []
      ∙ ap (λ l. next_of (l ++ later plan p.entered) h.past []) e
      ∙ stops c (cs ++ later plan p.entered) h.past (left_is p.keys h.past h.knows c.kind ∙ unsolved)

  at_end : (p : Place) → HasCome plan done p → p.left ≡ [] → slice_get plan.groups p.entered ≡ None → (more : List Outcome) → next_in plan (done ++ more) ≡ None
  at_end p h none is more =
      h.decides more ∙ (λ i. next_of (none i ++ tasks_from plan.results plan.degree plan.work p.entered (drop_none plan.groups p.entered is i)) h.past more)

  -- what a walk tells at an open task, or at the end
  pub record Tells (q : Place) : Type 0 where
    pub comes : HasCome plan done q
    pub opens : (c : Task) (cs : List Task) → q.left ≡ c ∷ cs → is_solved q.keys c.kind ≡ false
    pub ends : q.left ≡ [] → (more : List Outcome) → next_in plan (done ++ more) ≡ None

  tells_into : (p : Place) → HasCome plan done p → p.left ≡ [] → (o : Option (List ℕ)) → slice_get plan.groups p.entered ≡ o → Tells (into plan p o)
  tells_into p h none None is = record {
    comes = h;
    opens = λ c cs e. absurd (let both : [] ≡ c ∷ cs = sym none ∙ e in cc);
    ends = λ e. at_end p h none is;
  }
  tells_into p h none (Some funs) is = record {
    comes = come_into p h none funs is;
    opens = λ c cs e. is_open p.keys (tasks_at plan p.entered funs) c cs e;
    ends = λ e. absurd (some_open plan p.keys p.entered funs e);
  }

  tells_at : (p : Place) → HasCome plan done p → (left : List Task) → open_from p.keys p.left ≡ left → Tells (at plan p left)
  tells_at p h [] e = tells_into (record { keys = p.keys; entered = p.entered; left = [] }) (come_same p h [] e) refl (slice_get plan.groups p.entered) refl
  tells_at p h (c ∷ cs) e = record {
    comes = come_same p h (c ∷ cs) e;
    opens = λ x xs same. let is : c ≡ x = cc in subst (λ (t : Task). is_solved p.keys t.kind ≡ false) is (is_open p.keys p.left c cs e);
    ends = λ none. absurd (let both : c ∷ cs ≡ [] = none in cc);
  }

  pub advance_tells : (p : Place) → HasCome plan done p → Tells (advanced plan p)
  advance_tells p h = tells_at p h (open_from p.keys p.left) refl

  next_by : (q : Place) → Tells q → (left : List Task) → q.left ≡ left → next_in plan done ≡ first left
  next_by q h [] e = ap (next_in plan) (sym (append-nil done)) ∙ h.ends e []
  next_by q h (c ∷ cs) e = next_is q h.comes c cs e (h.opens c cs e)

  pub next_first : (q : Place) → Tells q → next_in plan done ≡ first q.left
  next_first q h = next_by q h q.left refl

  -- Groups that are too large

  fits_into : (most : ℕ) (p : Place) → Fits most plan done p.entered → any_has_more most plan (row plan.groups p.entered) ≡ false → (o : Option (List ℕ)) →
      Fits most plan done (into plan p o).entered
  fits_into most p fits few None = fits
  fits_into most p fits few (Some funs) = λ group is large.
      let same : group ≡ p.entered = omega (arith, is) in
      let many : any_has_more most plan (row plan.groups p.entered) ≡ true = subst (λ g. any_has_more most plan (row plan.groups g) ≡ true) same large in
      absurd (cc)

  fits_at : (most : ℕ) (p : Place) → Fits most plan done p.entered → (left : List Task) → (left ≡ [] → any_has_more most plan (row plan.groups p.entered) ≡ false) →
      Fits most plan done (at plan p left).entered
  fits_at most p fits [] few = fits_into most (record { keys = p.keys; entered = p.entered; left = [] }) fits (few refl) (slice_get plan.groups p.entered)
  fits_at most p fits (c ∷ cs) few = fits

  pub advance_fits : (most : ℕ) (p : Place) → Fits most plan done p.entered → (open_from p.keys p.left ≡ [] → any_has_more most plan (row plan.groups p.entered) ≡ false) →
      Fits most plan done (advanced plan p).entered
  advance_fits most p fits few = fits_at most p fits (open_from p.keys p.left) few

  refused_at : (most entered : ℕ) (q : Place) → Tells q → entered + 1 ≡ q.entered → ((n : ℕ) (t : Task) → n < length done → next_in plan (take n done) ≡ Some t → t.group < entered) →
      any_has_more most plan (row plan.groups entered) ≡ true → (left : List Task) → q.left ≡ left → (left ≡ [] → ⊥) → IsRefused most plan done
  refused_at most entered q h next came large [] e some = absurd (some refl)
  refused_at most entered q h next came large (c ∷ cs) e some =
      let of : c.group + 1 ≡ q.entered = (subst (AreOf q.entered) e h.comes.of_group).0 in
      let same : entered ≡ c.group = omega (arith, of, next) in
      record {
        task = c;
        is_next = next_is q h.comes c cs e (h.opens c cs e);
        is_first = λ n earlier low is equal. let before = came n earlier low is in omega (arith, before, equal, same);
        is_large = subst (λ g. any_has_more most plan (row plan.groups g) ≡ true) same large;
      }

  refused_by : (most : ℕ) (p : Place) → HasCome plan done p → p.left ≡ [] → any_has_more most plan (row plan.groups p.entered) ≡ true →
      (o : Option (List ℕ)) → slice_get plan.groups p.entered ≡ o → IsRefused most plan done
  refused_by most p h none large None is =
      let few : any_has_more most plan (row plan.groups p.entered) ≡ false = ap (λ o. any_has_more most plan (unwrap_or o [])) is in
      absurd (cc)
  refused_by most p h none large (Some funs) is =
      refused_at most p.entered (into plan p (Some funs)) (tells_into p h none (Some funs) is) refl h.came large (open_from p.keys (tasks_at plan p.entered funs)) refl (some_open plan p.keys p.entered funs)

  pub refused : (most : ℕ) (p : Place) → HasCome plan done p → open_from p.keys p.left ≡ [] → any_has_more most plan (row plan.groups p.entered) ≡ true → IsRefused most plan done
  refused most p h none large = refused_by most (record { keys = p.keys; entered = p.entered; left = [] }) (come_same p h [] none) refl large (slice_get plan.groups p.entered) refl

  not_refused_by : (most : ℕ) (q : Place) → Tells q → Fits most plan done q.entered → IsRefused most plan done → (left : List Task) → q.left ≡ left → ⊥
  not_refused_by most q h fits r [] e =
      let next = next_by q h [] e in
      let both : None ≡ Some r.task = sym next ∙ r.is_next in
      absurd (cc)
  not_refused_by most q h fits r (c ∷ cs) e =
      let next = next_by q h (c ∷ cs) e in
      let both : Some c ≡ Some r.task = sym next ∙ r.is_next in
      let same : c ≡ r.task = cc in
      let of : c.group + 1 ≡ q.entered = (subst (AreOf q.entered) e h.comes.of_group).0 in
      let large : any_has_more most plan (row plan.groups c.group) ≡ true = subst (λ (t : Task). any_has_more most plan (row plan.groups t.group) ≡ true) (sym same) r.is_large in
      let group = fits c.group of large in
      r.is_first group.count group.task group.before group.is_next (group.is_of ∙ ap (λ (t : Task). t.group) same)

  pub not_refused : (most : ℕ) (q : Place) → Tells q → Fits most plan done q.entered → IsRefused most plan done → ⊥
  not_refused most q h fits r = not_refused_by most q h fits r q.left refl

  -- An entry more

  module _ (p : Place) (h : HasCome plan done p) (c : Task) (cs : List Task) (left : p.left ≡ c ∷ cs) (unsolved : is_solved p.keys c.kind ≡ false) (e : Outcome) where
    is_last : take (length done) (done ++ e ∷ []) ≡ done
    is_last = take-append_seam done (e ∷ [])

    came_by : (n : ℕ) (t : Task) → (n < length done) ⊎ (n ≡ length done) → next_in plan (take n (done ++ e ∷ [])) ≡ Some t → t.group < p.entered
    came_by n t (inl low) is =
        let within : n ≤ length done = omega (arith, low) in
        h.came n t low (ap (next_in plan) (sym (take-append-le n done (e ∷ []) within)) ∙ is)
    came_by n t (inr last) is =
        let next : Some c ≡ Some t = sym (next_is p h c cs left unsolved) ∙ ap (next_in plan) (sym (ap (λ k. take k (done ++ e ∷ [])) last ∙ is_last)) ∙ is in
        let same : c ≡ t = cc in
        let of : c.group + 1 ≡ p.entered = (subst (AreOf p.entered) left h.of_group).0 in
        let group : c.group ≡ t.group = ap (λ (t : Task). t.group) same in
        omega (arith, of, group)

    either : (n : ℕ) → n < length (done ++ e ∷ []) → (n < length done) ⊎ (n ≡ length done)
    either n low = let more = length-append done (e ∷ []) in grind (arith, more)

    pub take_comes : (keys : List (ℕ × ℕ)) → ((past : List Outcome) → Knows p.keys past → Knows keys (e ∷ past)) →
        HasCome plan (done ++ e ∷ []) (record { keys = keys; entered = p.entered; left = cs })
    take_comes keys noted = record {
      past = e ∷ h.past;
      knows = noted h.past h.knows;
      decides = λ more.
          ap (next_in plan) (append_assoc done (e ∷ []) more)
          ∙ h.decides (e ∷ more)
          ∙ ap (λ l. next_of (l ++ later plan p.entered) h.past (e ∷ more)) left
          ∙ takes c (cs ++ later plan p.entered) h.past e more (left_is p.keys h.past h.knows c.kind ∙ unsolved);
      of_group = (subst (AreOf p.entered) left h.of_group).1;
      came = λ n t low is. came_by n t (either n low) is;
    }

    pub take_fits : (most : ℕ) → Fits most plan (done ++ e ∷ []) p.entered
    take_fits most = λ group is large.
        let of : c.group + 1 ≡ p.entered = (subst (AreOf p.entered) left h.of_group).0 in
        let more = length-append done (e ∷ []) in
        record {
          count = length done;
          task = c;
          before = omega (arith, more);
          is_next = ap (next_in plan) is_last ∙ next_is p h c cs left unsolved;
          is_of = omega (arith, of, is);
        }

  -- other keys for the same targets
  pub same_keys : (p : Place) → HasCome plan done p → (keys : List (ℕ × ℕ)) → ((past : List Outcome) → Knows p.keys past → Knows keys past) →
      HasCome plan done (record { keys = keys; entered = p.entered; left = p.left })
  same_keys p h keys kept = record { past = h.past; knows = kept h.past h.knows; decides = h.decides; of_group = h.of_group; came = h.came }

pub come_first : (plan : Plan) → HasCome plan [] (record { keys = []; entered = 0; left = [] })
come_first plan = record {
  past = [];
  knows = λ budget fun target. refl;
  decides = λ more. refl;
  of_group = tt;
  came = λ n t low is. absurd (omega (arith, low));
}

pub fits_first : (most : ℕ) (plan : Plan) → Fits most plan [] 0
fits_first most plan = λ group is large. absurd (omega (arith, is))

-- The same for the code's steps

-- the list has this first
first_cons : (left : List Task) (c : Task) → Some c ≡ first left → (cs : List Task) × (left ≡ c ∷ cs)
first_cons [] c e = absurd (cc)
first_cons (x ∷ xs) c e = let same : x ≡ c = cc in (xs, λ i. same i ∷ xs)

pub first_none : (left : List Task) → None ≡ first left → left ≡ []
first_none [] e = refl
first_none (x ∷ xs) e = absurd (cc)

-- an open task is at hand
pub at_some : (plan : Plan) (p : Place) (left : List Task) (c : Task) → Some c ≡ first left → record { keys = p.keys; entered = p.entered; left = left } ≡ at plan p left
at_some plan p [] c e = absurd (cc)
at_some plan p (x ∷ xs) c e = refl

pub may_enter : (most : ℕ) (plan : Plan) (p : Place) (left : List Task) (c : Task) → left ≡ open_from p.keys p.left → Some c ≡ first left → MayEnter most plan p
may_enter most plan p left c is e = λ none.
    let both : Some c ≡ first [] = e ∙ ap first (is ∙ none) in
    absurd (let apart : Some c ≡ None = both in cc)

module _ (plan : Plan) (done : List Outcome) where
  pub stands_on : (p q : Place) → Stands plan done p → q ≡ advanced plan p → MayEnter 2000 plan p → Stands plan done q
  stands_on p q h is few = subst (Stands plan done) (sym is) (record { come = (advance_tells plan done p h.come).comes; fits = advance_fits plan done 2000 p h.fits few })

  pub stands_passed : (p q : Place) → Stands plan done p → q ≡ passed p → Stands plan done q
  stands_passed p q h is = subst (Stands plan done) (sym is) (record { come = come_same plan done p h.come (open_from p.keys p.left) refl; fits = h.fits })

  pub tells_next : (p q : Place) → HasCome plan done p → q ≡ advanced plan p → next_in plan done ≡ first q.left
  tells_next p q h is = next_first plan done (advanced plan p) (advance_tells plan done p h) ∙ ap (λ (x : Place). first x.left) (sym is)

  pub is_not_refused : (p : Place) → Stands plan done p → MayEnter 2000 plan p → IsRefused 2000 plan done → ⊥
  is_not_refused p h few r = not_refused plan done 2000 (advanced plan p) (advance_tells plan done p h.come) (advance_fits plan done 2000 p h.fits few) r

  pub is_refused : (p : Place) → Stands plan done p → CantEnter 2000 plan p → IsRefused 2000 plan done
  is_refused p h cant = refused plan done 2000 p h.come cant.0 cant.1

  -- no task was left
  pub ends_before : (p q : Place) (more : List Outcome) → HasCome plan done p → q ≡ advanced plan p → None ≡ first q.left → next_in plan (done ++ more) ≡ None
  ends_before p q more h is none = (advance_tells plan done p h).ends (ap (λ (x : Place). x.left) (sym is) ∙ first_none q.left none) more

  -- a task was taken
  pub stands_taken : (p mid q : Place) (c : Task) (e : Outcome) → HasCome plan done p → mid ≡ advanced plan p → Some c ≡ first mid.left → Taken mid e q → Stands plan (done ++ e ∷ []) q
  stands_taken p mid q c e h is some taken =
      let tells = subst (Tells plan done) (sym is) (advance_tells plan done p h) in
      let there = first_cons mid.left c some in
      let unsolved = tells.opens c there.0 there.1 in
      let left : q.left ≡ there.0 = taken.left ∙ ap (drop 1) there.1 in
      let come = take_comes plan done mid tells.comes c there.0 there.1 unsolved e q.keys taken.knows in
      let fits = take_fits plan done mid tells.comes c there.0 there.1 unsolved e 2000 in
      record {
        come = subst (λ n. HasCome plan (done ++ e ∷ []) (record { keys = q.keys; entered = n; left = q.left })) (sym taken.entered)
            (subst (λ l. HasCome plan (done ++ e ∷ []) (record { keys = q.keys; entered = mid.entered; left = l })) (sym left) come);
        fits = subst (λ n. Fits 2000 plan (done ++ e ∷ []) n) (sym taken.entered) fits;
      }

  -- nothing was taken
  pub stands_still : (p q : Place) → Stands plan done p → StaysAt p q → Stands plan done q
  stands_still p q h stays = record {
    come = subst (λ n. HasCome plan done (record { keys = q.keys; entered = n; left = q.left })) (sym stays.entered)
        (subst (λ l. HasCome plan done (record { keys = q.keys; entered = p.entered; left = l })) (sym stays.left) (same_keys plan done p h.come q.keys stays.knows));
    fits = subst (λ n. Fits 2000 plan done n) (sym stays.entered) h.fits;
  }

pub stands_first : (plan : Plan) (p : Place) → p ≡ record { keys = []; entered = 0; left = [] } → Stands plan [] p
stands_first plan p is = subst (Stands plan []) (sym is) (record { come = come_first plan; fits = fits_first 2000 plan })

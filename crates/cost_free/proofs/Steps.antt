-- The walk over the tasks, step by step.
use Rattle.std.proofs.Common.{◌⊎◌, inl, inr, ◌+◌, ◌<◌, length, drop, slice_index_or, nat_eq, ◌&&◌, ◌||◌}
use Rattle.std.proofs.Common.{◌≡◌, ℕ, zero, suc, Bool, true, false, cond, List, [], ◌∷◌, refl, sym, ap, ◌∙◌, subst, arith}
use Rattle.std.specs.Prelude.{Result, Ok, Err, OnErr}
use Rattle.std.specs.declared.cmp.Ordering.{Ordering}
use Rattle.std.specs.declared.cmp.Ordering.TheVariants.{Less, Equal, Greater}
use Rattle.std.specs.Ordering.{ordering_then, nat_cmp, is_eq}
use Rattle.std.proofs.lemmas.Bool.Decides.{nat_tests}
use Rattle.std.proofs.lemmas.List.{drop_more}
use Rattle.raml_syntax.specs.declared.program.FunId.{FunId}
use Rattle.cost_free.specs.declared.task.Task as t
use Rattle.cost_free.specs.declared.task.Done.{Done}
use Rattle.cost_free.specs.declared.task.Meter.{Meter}
use Rattle.cost_free.specs.declared.task.TaskKind.TheVariants as k
use Rattle.cost_free.specs.declared.task.Done.TheVariants.{Solved, Refuted, Calls}
use Rattle.cost_free.specs.Read.{kind_of, task_of, tasks_of, outcome_of}
use Rattle.cost_free.specs.Task.{Task, Free, Outcome}
use Rattle.cost_free.specs.Schedule.{solves, is_left_out}
use Rattle.cost_free.specs.Walk.{holds, Knows, is_solved, open_from, first}

then_eq : (o p : Ordering) → is_eq (ordering_then o p) ≡ is_eq o && is_eq p
then_eq Less p = refl
then_eq Equal p = refl
then_eq Greater p = refl

cmp_eq : (a b : ℕ) → is_eq (nat_cmp a b) ≡ nat_eq b a
cmp_eq a b = grind (arith, nat_tests)

pair_eq : (g j f k : ℕ) → is_eq (ordering_then (nat_cmp g f) (nat_cmp j k)) ≡ nat_eq f g && nat_eq k j
pair_eq g j f k = then_eq (nat_cmp g f) (nat_cmp j k) ∙ (λ n. cmp_eq g f n && cmp_eq j k n)

either : (a b : Bool) → cond a true b ≡ a || b
either true b = refl
either false b = refl

known : (old new : List (ℕ × ℕ)) (g j budget : ℕ) (group : ℕ) →
    ((q : ℕ × ℕ) → holds new q.0 q.1 ≡ cond (is_eq (ordering_then (nat_cmp g q.0) (nat_cmp j q.1))) true (holds old q.0 q.1))
    → (past : List Outcome) → Knows old past → Knows new ((record { group = group; kind = Free budget g j }, Solved) ∷ past)
known old new g j budget group update past h any f k =
    (λ n. sym (pair_eq g j f k) n || h any f k n) ∙ sym (either (is_eq (ordering_then (nat_cmp g f) (nat_cmp j k))) (holds old f k)) ∙ sym (update (f, k))

-- an entry that solves a target
pub noted : (old new : List (ℕ × ℕ)) (g : FunId) (j b : ℕ) (e : t.Task × Done) → e.0.kind ≡ k.Free b g j → e.1 ≡ Solved
    → ((q : ℕ × ℕ) → holds new q.0 q.1 ≡ cond (is_eq (ordering_then (nat_cmp g.0 q.0) (nat_cmp j q.1))) true (holds old q.0 q.1))
    → (past : List Outcome) → Knows old past → Knows new (outcome_of e ∷ past)
noted old new g j b e is solved update past h any f x =
    (λ n. solves f x (record { group = e.0.group; kind = kind_of (is n) }, solved n) || is_left_out past (Free any f x))
    ∙ known old new g.0 j b e.0.group update past h any f x

-- an entry that solves no target
not_noted : (keys : List (ℕ × ℕ)) (e : t.Task × Done) → ((f x : ℕ) → solves f x (outcome_of e) ≡ false) → (past : List Outcome) → Knows keys past →
    Knows keys (outcome_of e ∷ past)
not_noted keys e none past h any f x = ap (λ b. b || is_left_out past (Free any f x)) (none f x) ∙ h any f x

pub with_noted : (keys : List (ℕ × ℕ)) (m : Meter) (e : t.Task × Done) → e.0.kind ≡ k.With m → e.1 ≡ Solved → (past : List Outcome) → Knows keys past →
    Knows keys (outcome_of e ∷ past)
with_noted keys m e is solved = not_noted keys e (λ f x i. solves f x (record { group = e.0.group; kind = kind_of (is i) }, solved i))

pub refuted_noted : (keys : List (ℕ × ℕ)) (e : t.Task × Done) → (e.1 ≡ Refuted) ⊎ (e.1 ≡ Calls) → (past : List Outcome) → Knows keys past →
    Knows keys (outcome_of e ∷ past)
refuted_noted keys e (inl is) = not_noted keys e (λ f x i. solves f x (task_of e.0, is i))
refuted_noted keys e (inr is) = not_noted keys e (λ f x i. solves f x (task_of e.0, is i))

-- the keys as they were
pub unchanged : (old new : List (ℕ × ℕ)) → new ≡ old → (past : List Outcome) → Knows old past → Knows new past
unchanged old new same past h = subst (λ keys. Knows keys past) (sym same) h

-- what is there in any case
pub on_error : {A E : Type 0} (r : Result A E) (X : Type 0) → X → OnErr r X
on_error (Ok a) X x = tt
on_error (Err e) X x = x

at_place : (cs : List t.Task) (i : ℕ) (d : t.Task) → i < length cs → drop i cs ≡ slice_index_or cs i d ∷ drop (i + 1) cs
at_place cs i d low = drop_more cs i d low

-- a task that is passed
pub passed : (keys : List (ℕ × ℕ)) (cs : List t.Task) (i : ℕ) (d : t.Task) (solved : Bool) (all : List Task) → i < length cs → solved ≡ is_solved keys (kind_of (slice_index_or cs i d).kind) →
    solved ≡ true → open_from keys (tasks_of (drop i cs)) ≡ all → open_from keys (tasks_of (drop (i + 1) cs)) ≡ all
passed keys cs i d solved all low test is before =
    let task = slice_index_or cs i d in
    let rest = open_from keys (tasks_of (drop (i + 1) cs)) in
    ap (λ b. cond b rest (task_of task ∷ tasks_of (drop (i + 1) cs))) (sym is ∙ test) ∙ ap (λ l. open_from keys (tasks_of l)) (sym (at_place cs i d low)) ∙ before

-- a task that is open
pub stays : (keys : List (ℕ × ℕ)) (cs : List t.Task) (i : ℕ) (d : t.Task) (solved : Bool) (all : List Task) → i < length cs → solved ≡ is_solved keys (kind_of (slice_index_or cs i d).kind) →
    solved ≡ false → open_from keys (tasks_of (drop i cs)) ≡ all → tasks_of (drop i cs) ≡ all
stays keys cs i d solved all low test is before =
    let task = slice_index_or cs i d in
    let rest = open_from keys (tasks_of (drop (i + 1) cs)) in
    ap tasks_of (at_place cs i d low)
    ∙ ap (λ b. cond b rest (task_of task ∷ tasks_of (drop (i + 1) cs))) (sym is ∙ test)
    ∙ ap (λ l. open_from keys (tasks_of l)) (sym (at_place cs i d low)) ∙ before

pub first_is : (cs : List t.Task) (i : ℕ) (d : t.Task) → i < length cs → first (tasks_of (drop i cs)) ≡ first (tasks_of (slice_index_or cs i d ∷ []))
first_is cs i d low = ap (λ l. first (tasks_of l)) (at_place cs i d low)

-- past the first task that is left
pub stepped : (cs : List t.Task) (i : ℕ) → tasks_of (drop (i + 1) cs) ≡ drop 1 (tasks_of (drop i cs))
stepped cs i = ap (λ n. tasks_of (drop n cs)) next ∙ by cs i
  where
    next : i + 1 ≡ suc i
    next = omega arith

    by : (cs : List t.Task) (i : ℕ) → tasks_of (drop (suc i) cs) ≡ drop 1 (tasks_of (drop i cs))
    by [] zero = refl
    by [] (suc i) = refl
    by (c ∷ cs) zero = refl
    by (c ∷ cs) (suc i) = by cs i

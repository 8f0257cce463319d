-- The tasks of a group, one after the other.
use Rattle.std.proofs.Common.{◌≡◌, ℕ, zero, suc, ◌+◌, ◌-◌, ◌<◌, ◌≤◌, nat_le, cond, List, [], ◌∷◌, ◌++◌, map, flat_map, drop, length, slice_get, slice_index_or, refl, sym, ap, ◌∙◌, arith, append_assoc, append-nil}
use Rattle.std.specs.List.{range_with_len}
use Rattle.std.proofs.lemmas.List.{drop_more}
use Rattle.std.proofs.lemmas.Bool.Decides.{nat_tests}
use Rattle.std.specs.Option.{option_map}
use Rattle.std.proofs.Common.{Some, get_or}
use Rattle.std.proofs.lemmas.Option.{slice_get-map, slice_get_read}
use Rattle.raml_syntax.specs.Read.{ty_of}
use Rattle.raml_syntax.specs.declared.ty.Ty.{Ty}
use Rattle.base_poly.specs.Plain.{capped}
use Rattle.base_poly.specs.Read.{context_of}
use Rattle.cost_free.specs.Target.{Target, degree_of}
use Rattle.cost_free.specs.Task.{Task, Free, With}
use Rattle.cost_free.specs.Schedule.{targets_at, tasks_for, group_tasks, meters}
use Rattle.cost_free.specs.Refused.{Plan}
use Rattle.cost_free.specs.Numbered.{with_degrees, tasks_by, tasks_of_all}

-- the type of a function's result
pub got : (results : List Ty) (k : ℕ) (ty : Ty) → k < length results → ty ≡ get_or results k ty → Some (ty_of ty) ≡ slice_get (context_of results) k
got results k ty low is = sym (slice_get-map ty_of results k ∙ ap (option_map ty_of) (slice_get_read results (length results) k ty refl low is))

-- one target more
pub tasks_step : (group budget fun : ℕ) (ns : List ℕ) (place n : ℕ) (old new all : List Task) → place < length ns → n ≡ slice_index_or ns place n
    → new ≡ old ++ cond (nat_le n budget) (record { group = group; kind = Free budget fun place } ∷ []) []
    → old ++ tasks_by group budget fun place (drop place ns) ≡ all
    → new ++ tasks_by group budget fun (place + 1) (drop (place + 1) ns) ≡ all
tasks_step group budget fun ns place n old new all low is made before =
    let here = cond (nat_le n budget) (record { group = group; kind = Free budget fun place } ∷ []) [] in
    let rest = drop (place + 1) ns in
    let next : place + 1 ≡ suc place = omega arith in
    (λ i. made i ++ tasks_by group budget fun (next i) rest)
    ∙ append_assoc old here (tasks_by group budget fun (suc place) rest)
    ∙ ap (λ l. old ++ tasks_by group budget fun place l) (sym (drop_more ns place n low ∙ ap (λ m. m ∷ rest) (sym is)))
    ∙ before

-- one budget more
pub budget_step : {X : Type 0} (f : ℕ → List X) (b count fewer : ℕ) (old new all : List X) → 0 < count → fewer ≡ count - 1 → new ≡ old ++ f b →
    old ++ flat_map f (range_with_len b count) ≡ all → new ++ flat_map f (range_with_len (b + 1) fewer) ≡ all
budget_step f b zero fewer old new all some is made before = absurd (omega (arith, some))
budget_step f b (suc count) fewer old new all some is made before =
    let same : fewer ≡ count = omega (arith, is) in
    (λ i. made i ++ flat_map f (range_with_len (b + 1) (same i))) ∙ append_assoc old (f b) (flat_map f (range_with_len (b + 1) count)) ∙ before

pub budget_done : {X : Type 0} (f : ℕ → List X) (b count : ℕ) (now all : List X) → count ≡ 0 → now ++ flat_map f (range_with_len b count) ≡ all → now ≡ all
budget_done f b count now all none h = sym (append-nil now) ∙ ap (λ n. now ++ flat_map f (range_with_len b n)) (sym none) ∙ h

range_same : (f g : ℕ → List Task) (from count : ℕ) → ((b : ℕ) → b < from + count → f b ≡ g b) → flat_map f (range_with_len from count) ≡ flat_map g (range_with_len from count)
range_same f g from zero same = refl
range_same f g from (suc count) same = λ i. same from (omega arith) i ++ range_same f g (from + 1) count (λ b low. same b (omega (arith, low))) i

low_capped : (n b : ℕ) → b ≤ 255 → nat_le (capped n) b ≡ nat_le n b
low_capped n b low = grind (arith, nat_tests, low)

-- a degree that is capped is within the same budgets
tasks_capped : (plan : Plan) (group budget fun number : ℕ) (ts : List Target) → budget ≤ 255 →
    tasks_by group budget fun number (map (λ t. capped (degree_of t)) ts) ≡ tasks_for plan.results plan.degree plan.work group budget fun number ts
tasks_capped plan group budget fun number [] low = refl
tasks_capped plan group budget fun number (t ∷ ts) low = λ i.
    cond (low_capped (degree_of t) budget low i) (record { group = group; kind = Free budget fun number } ∷ []) [] ++ tasks_capped plan group budget fun (suc number) ts low i

-- those of all functions
funs_capped : (plan : Plan) (group budget : ℕ) (funs : List ℕ) → budget ≤ 255 →
    tasks_of_all group budget (with_degrees plan funs)
    ≡ flat_map (λ f. tasks_for plan.results plan.degree plan.work group budget f 0 (targets_at (slice_get plan.results f) plan.degree)) funs
funs_capped plan group budget [] low = refl
funs_capped plan group budget (f ∷ fs) low = λ i. tasks_capped plan group budget f 0 (targets_at (slice_get plan.results f) plan.degree) low i ++ funs_capped plan group budget fs low i

-- functions with the degrees of their targets at hand have the group's tasks
pub same_tasks : (plan : Plan) (group place : ℕ) (funs : List ℕ) (numbered : List (ℕ × List ℕ)) (made : List Task) → plan.degree ≤ 255 → group ≡ place → numbered ≡ with_degrees plan funs →
    made
    ≡ flat_map (λ budget. tasks_of_all group budget numbered) (range_with_len 0 (plan.degree + 1))
    ++ map (λ meter. record { group = group; kind = With meter }) (meters plan.work) →
    made ≡ group_tasks plan.results plan.degree plan.work place funs
same_tasks plan group place funs numbered made low same is e =
    let last : plan.degree + 1 ≡ suc plan.degree = omega arith in
    e
    ∙ (λ i. flat_map (λ budget. tasks_of_all (same i) budget (is i)) (range_with_len 0 (last i)) ++ map (λ meter. record { group = same i; kind = With meter }) (meters plan.work))
    ∙ ap (λ l. l ++ map (λ meter. record { group = place; kind = With meter }) (meters plan.work))
    (range_same (λ budget. tasks_of_all place budget (with_degrees plan funs)) _ 0 (suc plan.degree) (λ b less. funs_capped plan place b funs (omega (arith, low, less))))

-- Outcomes that pass a test, and groups among the first ones.
use Rattle.std.proofs.Common.{◌≡◌, ◌∙◌, ◌<◌, ◌∷◌, ◌||◌, [], ℕ, zero, suc, Bool, true, List, length, take, slice_index_or, Vec, ap, sym, arith}
use Rattle.std.proofs.Math.Bool.{or-true}
use Rattle.std.specs.Global.{Global}
use Rattle.std.specs.List.{list_any}
use Rattle.raml_syntax.specs.declared.program.FunId.{FunId}
use Rattle.cost_free.specs.declared.task.Task.{Task}
use Rattle.cost_free.specs.declared.task.Done.{Done}
use Rattle.cost_free.specs.Task.{Outcome}
use Rattle.cost_free.specs.Blocked.{is_among, in_any, row}
use Rattle.cost_free.specs.Read.{ids_of, lists_of, outcome_of, outcomes_of}

-- an outcome passes, so one of all does
pub one_passes : (test : Outcome → Bool) (done : List (Task × Done)) (k : ℕ) (d : Task × Done) → k < length done →
    test (outcome_of (slice_index_or done k d)) ≡ true → list_any test (outcomes_of done) ≡ true
one_passes test [] k d low passes = absurd (omega (arith, low))
one_passes test (e ∷ es) zero d low passes = ap (λ b. b || list_any test (outcomes_of es)) passes
one_passes test (e ∷ es) (suc k) d low passes =
    ap (λ b. test (outcome_of e) || b) (one_passes test es k d (omega (arith, low)) passes) ∙ or-true (test (outcome_of e))

-- a group among the first ones is one of all
pub first_row : (groups : List (List ℕ)) (n k f : ℕ) → is_among f (row (take n groups) k) ≡ true → is_among f (row groups k) ≡ true
first_row [] zero k f h = h
first_row [] (suc n) k f h = h
first_row (g ∷ gs) zero zero f h = absurd (cc)
first_row (g ∷ gs) zero (suc k) f h = absurd (cc)
first_row (g ∷ gs) (suc n) zero f h = h
first_row (g ∷ gs) (suc n) (suc k) f h = first_row gs n k f h

-- the function is in the group at a place, so it is in one
pub in_place : (groups : List (Vec FunId Global)) (g : Vec FunId Global) (f k : ℕ) → k < length groups → g ≡ slice_index_or groups k g → is_among f (ids_of g.items) ≡ true →
    (in_any f (lists_of groups) ≡ true) × (is_among f (row (lists_of groups) k) ≡ true)
in_place [] g f k low is h = absurd (omega (arith, low))
in_place (x ∷ xs) g f zero low is h = let here = ap (λ (v : Vec FunId Global). is_among f (ids_of v.items)) (sym is) ∙ h in (ap (λ b. b || in_any f (lists_of xs)) here, here)
in_place (x ∷ xs) g f (suc k) low is h =
    let more = in_place xs g f k (omega (arith, low)) is h in
    (ap (λ b. is_among f (ids_of x.items) || b) more.0 ∙ or-true (is_among f (ids_of x.items)), more.1)

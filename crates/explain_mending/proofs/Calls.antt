-- What is called is reached.
use Rattle.std.proofs.Common.{◌≡◌, sym, ap, ◌∙◌, ◌⊎◌, ⊎_elim, ◌<◌, ℕ, zero, suc, true, List, [], ◌∷◌, map, length, None, slice_get, slice_index_or, arith}
use Rattle.std.proofs.lemmas.List.{length-map, get_or-map}
use Rattle.std.specs.List.{All, Contains, range_with_len}
use Rattle.std.proofs.lemmas.List.Elements.{All-weaker, All-contains, All-contains_itself, All-nil, All-cons, All-head, All-tail, All-same, filter_passes}
use Rattle.raml_syntax.specs.Tree.{Function, Prog}
use Rattle.raml_syntax.specs.declared.program.FunId.{FunId}
use Rattle.call_groups.specs.Calls.{calls, calls_from, calls_of, callees, is_called}
use Rattle.call_groups.specs.Groups.{here, there, Grouping, IsGrouping}
use Rattle.call_groups.specs.Read.{ids_of}
use Rattle.call_groups.proofs.Leads.{reaches_more}
use Rattle.explain_mending.specs.Reached.{callees_at, IsReached, AreReached, AreOfBoth}

-- what stands among the callees of a function is called by it
called_at : (P : Prog) (all : List Function) (f : ℕ) → All (λ g. calls_from P (slice_get all f) g ≡ true) (callees_at (map (λ (h : Function). callees P h.body) all) f)
called_at P [] f = All-nil (λ g. calls_from P None g ≡ true)
called_at P (h ∷ all) zero = filter_passes (λ g. is_called P g h.body) (range_with_len 0 (length P))
called_at P (h ∷ all) (suc f) = called_at P all f

pub called : (P : Prog) (groups : Grouping) (f : ℕ) → IsGrouping P groups → All (λ g. calls P f g ≡ true) (callees_at groups.calls f)
called P groups f is = All-same (λ g. calls P f g ≡ true) (callees_at groups.calls f) (callees_at (calls_of P) f) (ap (λ c. callees_at c f) is.calls) (called_at P P f)

reached_next : (P : Prog) (group : List ℕ) (f g : ℕ) → IsReached P group f → calls P f g ≡ true → IsReached P group g
reached_next P group f g is calls = record { from = is.from; of_group = is.of_group; reaches = reaches_more P is.reaches (there calls here) }

-- what holds of all that is mapped
all_back : {X Y : Type 0} (P : X → Type 0) (f : Y → X) (ys : List Y) → All P (map f ys) → All (λ y. P (f y)) ys
all_back P f [] are = All-nil (λ y. P (f y))
all_back P f (y ∷ ys) are = All-cons (λ y. P (f y)) y ys (All-head P (f y) (map f ys) are) (all_back P f ys (All-tail P (f y) (map f ys) are))

abbrev id : FunId → ℕ
id f = f.0

-- functions and their numbers
pub contains_id : (funs : List FunId) (f : FunId) → Contains funs f → Contains (ids_of funs) f.0
contains_id funs f one =
    All-contains (λ (g : FunId). Contains (ids_of funs) g.0) funs f (all_back (Contains (ids_of funs)) id funs (All-contains_itself (ids_of funs))) one

one_id : (f g : FunId) → f.0 ≡ g.0 → f ≡ g
one_id f g same = ap (λ (n : ℕ). let made : FunId = record { 0 = n } in made) same

pub contains_of_id : (funs : List FunId) (f : FunId) → Contains (ids_of funs) f.0 → Contains funs f
contains_of_id funs f one =
    let within : one.0 < length funs = omega (arith, one.1, length-map funs id) in
    let same = get_or-map id funs one.0 f f.0 within in
    (one.0, within, one_id (slice_index_or funs one.0 f) f (sym same ∙ one.2))

-- a function among the callees of another one is called by it
pub called_one : (P : Prog) (groups : Grouping) (fun : ℕ) (funs : List FunId) (f : FunId) → IsGrouping P groups → ids_of funs ≡ callees_at groups.calls fun →
    Contains funs f → calls P fun f.0 ≡ true
called_one P groups fun funs f is same one =
    let all = All-same (λ g. calls P fun g ≡ true) (ids_of funs) (callees_at groups.calls fun) same (called P groups fun is) in
    All-contains (λ (g : FunId). calls P fun g.0 ≡ true) funs f (all_back (λ g. calls P fun g ≡ true) id funs all) one

pub of_group : (P : Prog) (funs : List FunId) → AreReached P (ids_of funs) funs
of_group P funs =
    All-weaker (Contains funs) (λ (f : FunId). IsReached P (ids_of funs) f.0) (λ f c. record { from = f.0; of_group = contains_id funs f c; reaches = here }) funs
    (All-contains_itself funs)

-- a function that is called is reached
pub reached_more : (P : Prog) (group : List ℕ) (groups : Grouping) (old : List FunId) (fun : FunId) (funs new : List FunId) → IsGrouping P groups → AreReached P group old →
    Contains old fun → ids_of funs ≡ callees_at groups.calls fun.0 → AreOfBoth old funs new → AreReached P group new
reached_more P group groups old fun funs new is are one same both =
    let here : IsReached P group fun.0 = All-contains (λ (f : FunId). IsReached P group f.0) old fun are one in
    All-weaker (λ f. Contains old f ⊎ Contains funs f) (λ (f : FunId). IsReached P group f.0)
    (λ f c. ⊎_elim (λ o. All-contains (λ (f : FunId). IsReached P group f.0) old f are o)
    (λ n. reached_next P group fun.0 f.0 here (called_one P groups fun.0 funs f is same n)) c) new both

-- Whether walks are small enough is told as the limits say.
use Rattle.std.proofs.Common.{◌≡◌, refl, arith}
use Rattle.std.specs.Prelude.{ℕ, ◌-◌, ◌≤◌, ◌↔◌, nat_le, Bool, true, false, ◌&&◌, List, [], ◌∷◌, ◌++◌, slice_get, Option, None, Some}
use Rattle.std.specs.List.{All, list_all}
use Rattle.std.proofs.lemmas.Bool.Decides.{nat_tests}
use Rattle.std.proofs.lemmas.List.Elements.{All-nil, All-cons, All-head, All-tail}
use Rattle.raml_syntax.specs.Tree.{Type'}
use Rattle.base_poly.specs.Plain.{degrees}
use Rattle.normal_spec.specs.Norm as n
use Rattle.normal_spec.specs.Norm.{Norm, NormFun}
use Rattle.normal_spec.specs.Context.{Context, types, without, opened, parts_of, copies_of, inners, others}
use Rattle.annot_types.specs.Carried.{tuples}
use Rattle.annot_types.specs.Program.{members}
use Rattle.annot_types.specs.Holds.{budget_of}
use Rattle.annot_types.specs.Rows.{size as size_of}
use Rattle.rules_plan.specs.Within.{AreSmall, IsWithin, FunctionWithin}
use Rattle.infer_systems_laws.specs.Analysed.{are_small, is_within, function_is_within}
use Rattle.infer_systems_laws.specs.Laws.{LimitsAreTold}

-- the truth tells the claim
abbrev Tells : Bool → Type 0 → Type 0
Tells b P = (b ≡ true) ↔ P

both : (a b : Bool) (P Q : Type 0) → Tells a P → Tells b Q → Tells (a && b) (P × Q)
both true true P Q h k = (λ e. (h.0 refl, k.0 refl), λ r. refl)
both true false P Q h k = (λ e. absurd (cc), λ r. k.1 r.1)
both false b P Q h k = (λ e. absurd (cc), λ r. h.1 r.0)

all : {X : Type 0} (p : X → Bool) (P : X → Type 0) → ((x : X) → Tells (p x) (P x)) → (xs : List X) → Tells (list_all p xs) (All P xs)
all p P h [] = (λ e. All-nil P, λ r. refl)
all p P h (x ∷ xs) =
    let r = both (p x) (list_all p xs) (P x) (All P xs) (h x) (all p P h xs) in
    (λ e. let s = r.0 e in All-cons P x xs s.0 s.1, λ s. r.1 (All-head P x xs s, All-tail P x xs s))

few : (m n : ℕ) → Tells (nat_le m n) (m ≤ n)
few m n = (λ e. grind (arith, nat_tests, e), λ l. grind (arith, nat_tests, l))

small : (C : Context) (T : Type') (d : ℕ) → Tells (are_small C T d) (AreSmall 2000 C T d)
small C T d = both _ _ _ _ (few (size_of (types C) d) 2000) (few (size_of (T ∷ []) d) 2000)

-- with that of one part, and with those of two
one : (C : Context) (T : Type') (d : ℕ) (a : Bool) (P : Type 0) → Tells a P → Tells (are_small C T d && a) (AreSmall 2000 C T d × P)
one C T d a P h = both (are_small C T d) a (AreSmall 2000 C T d) P (small C T d) h

two : (C : Context) (T : Type') (d : ℕ) (a b : Bool) (P Q : Type 0) → Tells a P → Tells b Q → Tells (are_small C T d && a && b) (AreSmall 2000 C T d × P × Q)
two C T d a b P Q h k =
    let r = both (are_small C T d && a) b (AreSmall 2000 C T d × P) Q (one C T d a P h) k in
    (λ e. let s = r.0 e in (s.0.0, s.0.1, s.1), λ s. r.1 ((s.0, s.1), s.2))

within : (e : Norm) (C : Context) (T : Type') (d : ℕ) → Tells (is_within e C T d) (IsWithin 2000 e C T d)
within (n.Var k x) C T d = small C T d
within (n.Number k i) C T d = small C T d
within (n.Truth k b) C T d = small C T d
within (n.Nil k) C T d = small C T d
within (n.Leaf k) C T d = small C T d
within (n.Nothing k) C T d = small C T d
within (n.Arith k op x y) C T d = small C T d
within (n.Compare k op x y) C T d = small C T d
within (n.Not k x) C T d = small C T d
within (n.Pair k x y) C T d = small C T d
within (n.Cons k x y) C T d = small C T d
within (n.Node k x y z) C T d = small C T d
within (n.Just k x) C T d = small C T d
within (n.Call k f xs) C T d = small C T d
within (n.Let k x A a b) C T d = two C T d _ _ _ _
    (all (λ j. is_within a (inners a C) A (d - degrees j)) (λ j. IsWithin 2000 a (inners a C) A (d - degrees j)) (λ j. within a (inners a C) A (d - degrees j)) (tuples (others a C) d))
    (within b (others a C ++ (x, A) ∷ []) T d)
within (n.Split k x y z a) C T d = one C T d _ _ (within a (opened x (y ∷ z ∷ []) parts_of C) T d)
within (n.If k x a b) C T d = two C T d _ _ _ _ (within a (without x C) T d) (within b (without x C) T d)
within (n.CaseList k x a h t b) C T d = two C T d _ _ _ _ (within a (without x C) T d) (within b (opened x (h ∷ t ∷ []) parts_of C) T d)
within (n.CaseTree k x a e y z b) C T d = two C T d _ _ _ _ (within a (without x C) T d) (within b (opened x (e ∷ y ∷ z ∷ []) parts_of C) T d)
within (n.CaseOption k x a y b) C T d = two C T d _ _ _ _ (within a (without x C) T d) (within b (opened x (y ∷ []) parts_of C) T d)
within (n.Tick k i a) C T d = one C T d _ _ (within a C T d)
within (n.Share k x y z a) C T d = one C T d _ _ (within a (opened x (y ∷ z ∷ []) copies_of C) T d)
within (n.Drop k x a) C T d = one C T d _ _ (within a (without x C) T d)

function_within : (o : Option NormFun) (budget : ℕ) → Tells (function_is_within o budget) (FunctionWithin 2000 o budget)
function_within None budget = (λ e. tt, λ h. refl)
function_within (Some g) budget = within g.body g.params g.result budget

pub limits_are_told : LimitsAreTold
limits_are_told P d task =
    all (λ f. function_is_within (slice_get P.funs f) (budget_of d task.kind)) (λ f. FunctionWithin 2000 (slice_get P.funs f) (budget_of d task.kind))
    (λ f. function_within (slice_get P.funs f) (budget_of d task.kind)) (members P task.group)

-- The sizes of a group, function by function.
use Rattle.std.proofs.Common.{◌≡◌, refl, ap, sym, ◌∙◌, subst, arith}
use Rattle.std.specs.Prelude.{ℕ, zero, suc, ◌+◌, ◌<◌, Bool, true, false, ◌||◌, nat_eq, List, [], ◌∷◌, ◌++◌, map, take, length, slice_get, slice_index_or, Some}
use Rattle.std.proofs.lemmas.Option.{same_Some, slice_get_within}
use Rattle.std.proofs.lemmas.Bool.Decides.{nat_tests}
use Rattle.raml_syntax.specs.declared.ty.Ty.{Ty}
use Rattle.raml_syntax.specs.declared.program.FunId.{FunId}
use Rattle.call_groups.specs.Read.{ids_of}
use Rattle.normal_spec.specs.Norm as n
use Rattle.normal_spec.specs.declared.form.NormFun.{NormFun}
use Rattle.normal_spec.specs.Read.{fun_of, funs_of}
use Rattle.cost_free.specs.Blocked.{is_among}
use Rattle.annot_types.specs.Program.{Program, members}
use Rattle.rules_walk.specs.Sizes.{AreSizes}
use Rattle.rules_systems_laws.specs.Ordered.{AreApart, IsOrdered}
use Rattle.rules_systems_laws.proofs.Ready.{is_later}
use Rattle.infer_systems_laws.proofs.Proper.{is_first}
use Rattle.bound_infer.specs.Sized.{sizes_in}

pub function_there : (As : List Ty) (gs : List NormFun) (k : ℕ) (g : NormFun) (d : Ty) → k < length As → slice_get gs k ≡ Some g →
    slice_get (funs_of As gs) k ≡ Some (fun_of (slice_index_or As k d) g)
function_there [] gs k g d h there = absurd (omega (arith, h))
function_there (A ∷ As) [] k g d h there = absurd (cc)
function_there (A ∷ As) (f ∷ gs) zero g d h there = ap (λ g. Some (fun_of A g)) (same_Some f g there)
function_there (A ∷ As) (f ∷ gs) (suc k) g d h there = function_there As gs k g d (omega (arith, h)) there

pub are_sizes : (P : Program) (budget : ℕ) (fs : List ℕ) → AreApart fs → ((f : ℕ) → is_among f fs ≡ true → (g : n.NormFun) × (slice_get P.funs f ≡ Some g)) →
    AreSizes P budget fs (map (λ f. sizes_in budget (slice_get P.funs f)) fs)
are_sizes P budget [] h there = tt
are_sizes P budget (f ∷ fs) h there =
    let g = there f (is_first f fs) in (
      record { fun = g.0; there = g.1; args = ap (λ o. (sizes_in budget o).0) g.1; result = ap (λ o. (sizes_in budget o).1) g.1 },
      h.0,
      are_sizes P budget fs h.1 (λ x e. there x (is_later x f fs e)),
    )

member_among : (group : List FunId) (k : ℕ) (d : FunId) → k < length group → is_among (slice_index_or group k d).0 (ids_of group) ≡ true
member_among [] k d h = absurd (omega (arith, h))
member_among (f ∷ group) zero d h = let same : nat_eq f.0 f.0 ≡ true = grind (arith, nat_tests) in ap (λ b. b || is_among f.0 (ids_of group)) same
member_among (f ∷ group) (suc k) d h = by (nat_eq (slice_index_or group k d).0 f.0) (member_among group k d (omega (arith, h))) where
  by : (b : Bool) → is_among (slice_index_or group k d).0 (ids_of group) ≡ true → (b || is_among (slice_index_or group k d).0 (ids_of group)) ≡ true
  by true e = refl
  by false e = e

-- a member of a group is a function of the program
pub member_low : (P : Program) (ordered : IsOrdered P) (group : ℕ) (funs : List FunId) → ids_of funs ≡ members P group → (k : ℕ) (d : FunId) → k < length funs → (slice_index_or funs k d).0 < length P.funs
member_low P ordered group funs e k d low =
    let f = (slice_index_or funs k d).0 in
    let g = ordered.there group f (subst (λ fs. is_among f fs ≡ true) e (member_among funs k d low)) in
    slice_get_within P.funs f g.0 g.1

ids_more : (group : List FunId) (k : ℕ) (d : FunId) → k < length group → ids_of (take (k + 1) group) ≡ ids_of (take k group) ++ (slice_index_or group k d).0 ∷ []
ids_more [] k d h = absurd (omega (arith, h))
ids_more (f ∷ group) zero d h = refl
ids_more (f ∷ group) (suc k) d h = let e : suc k + 1 ≡ suc (k + 1) = omega arith in ap (λ n. ids_of (take n (f ∷ group))) e ∙ ap (λ l. f.0 ∷ l) (ids_more group k d (omega (arith, h)))

map_more : {X Y : Type 0} (f : X → Y) (xs : List X) (x : X) → map f (xs ++ x ∷ []) ≡ map f xs ++ f x ∷ []
map_more f [] x = refl
map_more f (y ∷ xs) x = ap (λ l. f y ∷ l) (map_more f xs x)

pub sizes_more : (F : ℕ → ℕ × ℕ) (group : List FunId) (k : ℕ) (d : FunId) (made new : List (ℕ × ℕ)) (s : ℕ × ℕ) → k < length group → new ≡ made ++ s ∷ [] →
    s ≡ F (slice_index_or group k d).0 → made ≡ map F (ids_of (take k group)) → new ≡ map F (ids_of (take (k + 1) group))
sizes_more F group k d made new s low e is h =
    e ∙ (λ i. h i ++ is i ∷ []) ∙ sym (map_more F (ids_of (take k group)) (slice_index_or group k d).0) ∙ ap (map F) (sym (ids_more group k d low))

-- The functions of groups.
use Rattle.std.proofs.Common.{◌≡◌, refl, ap, sym, ◌∙◌, subst, arith}
use Rattle.std.proofs.lemmas.List.{length-map}
use Rattle.normal_spec.specs.Two.{norm, norm_fun}
use Rattle.annot_types.specs.Held.{IfSolved}
use Rattle.std.specs.Prelude.{ℕ, zero, suc, ◌<◌, ◌||◌, Bool, true, false, nat_eq, List, [], ◌∷◌, ◌++◌, map, length, slice_get, Option, None, Some}
use Rattle.std.specs.List.{Contains}
use Rattle.annot_types.specs.Program.{Program}
use Rattle.annot_types.specs.Certificate as c
use Rattle.rules_spec.specs.Jobs.{body_of}
use Rattle.rules_walk.specs.Sizes.{AreSizes}
use Rattle.cert_check.specs.At.{sizes_of}
use Rattle.cert_check.specs.Laws.{AllThere}
use Rattle.std.proofs.lemmas.Option.{slice_get_within}
use Rattle.std.proofs.lemmas.Bool.{eqb-true}
use Rattle.raml_syntax.specs.Tree.{Function, Prog}
use Rattle.normal_spec.specs.Norm.{NormFun, NormProg}
use Rattle.call_groups.specs.Calls.{calls_from}
use Rattle.call_groups.specs.Groups.{Reaches, here, there, Ascends, AreInOrder}
use Rattle.cost_free.specs.Blocked.{row, is_among}

true_false : true ≡ false → ⊥
true_false e = cc

-- what reaches a function is one
reaching : (P : Prog) (f g : ℕ) → Reaches P f g → g < length P → f < length P
reaching P f g here l = l
reaching P f g (there {g = h} c r) l = by (slice_get P f) refl c where
  by : (o : Option Function) → slice_get P f ≡ o → calls_from P o h ≡ true → f < length P
  by None e c = absurd (true_false (sym c))
  by (Some x) e c = slice_get_within P f x e

-- functions, each named once
unfoldable pub AreFunctions : ℕ → List ℕ → Type 0
AreFunctions n [] = Unit {0}
AreFunctions n (f ∷ fs) = (f < n) × (is_among f fs ≡ false) × AreFunctions n fs

below : (f g : ℕ) (fs : List ℕ) → f < g → Ascends (g ∷ fs) → is_among f (g ∷ fs) ≡ false
below f g [] l a = by (nat_eq f g) refl where
  by : (b : Bool) → nat_eq f g ≡ b → (b || false) ≡ false
  by true e = absurd (omega (arith, eqb-true f g e, l))
  by false e = refl
below f g (h ∷ fs) l a = by (nat_eq f g) refl (below f h fs (omega (arith, l, a.0)) a.1) where
  by : (b : Bool) → nat_eq f g ≡ b → is_among f (h ∷ fs) ≡ false → (b || is_among f (h ∷ fs)) ≡ false
  by true e k = absurd (omega (arith, eqb-true f g e, l))
  by false e k = k

group_functions : (n : ℕ) (fs : List ℕ) → Ascends fs → ((f : ℕ) → Contains fs f → f < n) → AreFunctions n fs
unfolding AreFunctions
group_functions n [] a h = tt
group_functions n (f ∷ []) a h = (h f (0, omega arith, refl), refl, tt)
group_functions n (f ∷ g ∷ fs) a h = (h f (0, omega arith, refl), below f g fs a.0 a.1, group_functions n (g ∷ fs) a.1 (λ x k. h x (suc k.0, omega (arith, k.1), k.2)))

pub members_are : (P : Prog) (before : List ℕ) (groups : List (List ℕ)) → AreInOrder P before groups → (k : ℕ) → AreFunctions (length P) (row groups k)
unfolding AreFunctions
members_are P before [] h k = tt
members_are P before (g ∷ gs) h zero =
    group_functions (length P) g h.0.ascends (λ f k. reaching P f h.0.least ((h.0.members f).0 k).1 h.0.may_come.is_function)
members_are P before (g ∷ gs) h (suc k) = members_are P (before ++ g) gs h.1 k

-- so each is there
there_at : (N : NormProg) (f : ℕ) → f < length N → (g : NormFun) × (slice_get N f ≡ Some g)
there_at [] f h = absurd (omega (arith, h))
there_at (g ∷ N) zero h = (g, refl)
there_at (g ∷ N) (suc f) h = there_at N f (omega (arith, h))

pub are_there : (P : Program) (fs : List ℕ) → AreFunctions (length P.funs) fs → AllThere P fs
unfolding AreFunctions
are_there P [] h = tt
are_there P (f ∷ fs) h = (there_at P.funs f h.0, are_there P fs h.2)

-- and has the sizes of its body
pub have_sizes : (P : Program) (group : List ℕ) (earlier : List c.Block) (budget : ℕ) (fs : List ℕ) → AreFunctions (length P.funs) fs →
    AreSizes P budget fs (sizes_of (map (λ f. body_of P group earlier budget (slice_get P.funs f)) fs))
unfolding AreFunctions
have_sizes P group earlier budget [] h = tt
have_sizes P group earlier budget (f ∷ fs) h =
    let g = there_at P.funs f h.0 in (
      record {
        fun = g.0;
        there = g.1;
        args = ap (λ o. (body_of P group earlier budget o).args) g.1;
        result = ap (λ o. (body_of P group earlier budget o).result) g.1;
      },
      h.1,
      have_sizes P group earlier budget fs h.2,
    )

pub if_solved_more : (body : c.Body) (A B : Type 0) → (A → B) → IfSolved body A → IfSolved body B
if_solved_more (c.Solved sigs hints) A B h k = h k
if_solved_more (c.Refuted farkas) A B h k = tt
if_solved_more (c.Calls f) A B h k = tt

-- of a program and its normal form
pub functions_are : (P : Prog) (N : NormProg) (groups : List (List ℕ)) → N ≡ norm P → AreInOrder P [] groups → (k : ℕ) → AreFunctions (length N) (row groups k)
functions_are P N groups e h k =
    subst (λ n. AreFunctions n (row groups k)) (sym (ap length e ∙ length-map P (norm_fun P))) (members_are P [] groups h k)

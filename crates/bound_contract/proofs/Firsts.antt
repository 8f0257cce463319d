-- Where a function is found in its group.
use Rattle.std.proofs.Common.{◌≡◌, refl, sym, ap, ◌∙◌, arith, subst}
use Rattle.std.specs.Prelude.{ℕ, zero, suc, ◌+◌, ◌<◌, nat_eq, Bool, true, false, cond, ◌||◌, List, [], ◌∷◌, map, drop, length, slice_get, slice_index_or, Option, Some}
use Rattle.std.proofs.lemmas.Bool.Decides.{nat_tests}
use Rattle.raml_syntax.specs.declared.program.FunId.{FunId}
use Rattle.call_groups.specs.Read.{ids_of}
use Rattle.rules_plan.specs.Read as r
use Rattle.rules_plan.specs.declared.body.Body.{Body as Made}
use Rattle.normal_spec.specs.Norm.{NormFun}
use Rattle.cost_free.specs.Blocked.{is_among}
use Rattle.annot_types.specs.Program.{Program}
use Rattle.annot_types.specs.Certificate.{Block}
use Rattle.annot_types.specs.Rules.{Mode, Setting}
use Rattle.annot_types.specs.Rows.{size}
use Rattle.annot_types.specs.System.{args_of, result_of}
use Rattle.rules_spec.specs.Tasks.{Body}
use Rattle.rules_spec.specs.Jobs.{body_of}
use Rattle.rules_spec.specs.Systems.{AreReady}
use Rattle.rules_systems_laws.specs.Arguments.{first_from}
use Rattle.bound_contract.specs.System.{first_in, count_in}

-- the function at a place
pub hit : (bs : List Made) (gs : List FunId) (k f next : ℕ) (d : FunId) → k < length bs → k < length gs → (slice_index_or gs k d).0 ≡ f →
    first_in (map r.body_of (drop k bs)) (ids_of (drop k gs)) f next ≡ next
hit [] gs k f next d l m e = absurd (omega (arith, l))
hit (b ∷ bs) [] k f next d l m e = absurd (omega (arith, m))
hit (b ∷ bs) (g ∷ gs) zero f next d l m e = by (nat_eq f g.0) refl where
  by : (t : Bool) → nat_eq f g.0 ≡ t → cond t next (first_in (map r.body_of bs) (ids_of gs) f (next + (b.args + b.result))) ≡ next
  by true q = refl
  by false q = absurd (grind (arith, nat_tests, q, e))
hit (b ∷ bs) (g ∷ gs) (suc k) f next d l m e = hit bs gs k f next d (omega (arith, l)) (omega (arith, m)) e

-- the sizes of plans are those of the definitions
module _ (P : Program) (group : List ℕ) (blocks : List Block) (d : ℕ) (S : Setting) (mode : Mode) (same : S.program.funs ≡ P.funs) where
  abbrev body : Option NormFun → Body
  body o = body_of P group blocks d o

  abbrev sizes : Option NormFun → ℕ
  sizes o = size (args_of o) d + size (result_of o) d

  sizes_are : (o : Option NormFun) (g : NormFun) → o ≡ Some g → (body o).args + (body o).result ≡ sizes o
  sizes_are o g e = subst (λ o. (body o).args + (body o).result ≡ sizes o) (sym e) refl

  pub firsts : (fs : List ℕ) → AreReady S mode fs → (f next : ℕ) → first_in (map (λ g. body (slice_get P.funs g)) fs) fs f next ≡ first_from P d next fs f
  firsts [] ready f next = refl
  firsts (g ∷ fs) ready f next =
      let there : slice_get P.funs g ≡ Some ready.0.fun = ap (λ (funs : List NormFun). slice_get funs g) (sym same) ∙ ready.0.there in
      let b = body (slice_get P.funs g) in
      ap (cond (nat_eq f g) next) (firsts fs ready.2 f (next + (b.args + b.result)) ∙ ap (λ n. first_from P d (next + n) fs f) (sizes_are (slice_get P.funs g) ready.0.fun there))

  args_are : (o : Option NormFun) (g : NormFun) → o ≡ Some g → (body o).args ≡ size (args_of o) d
  args_are o g e = subst (λ o. (body o).args ≡ size (args_of o) d) (sym e) refl

  pub counts : (fs : List ℕ) → AreReady S mode fs → (f : ℕ) → is_among f fs ≡ true → count_in (map (λ g. body (slice_get P.funs g)) fs) fs f ≡ size (args_of (slice_get P.funs f)) d
  counts [] ready f inside = absurd (cc)
  counts (g ∷ fs) ready f inside = by (nat_eq f g) refl inside (counts fs ready.2 f) where
    there : slice_get P.funs g ≡ Some ready.0.fun
    there = ap (λ (funs : List NormFun). slice_get funs g) (sym same) ∙ ready.0.there

    by : (t : Bool) → nat_eq f g ≡ t → (t || is_among f fs) ≡ true →
        (is_among f fs ≡ true → count_in (map (λ g. body (slice_get P.funs g)) fs) fs f ≡ size (args_of (slice_get P.funs f)) d) →
        cond t (body (slice_get P.funs g)).args (count_in (map (λ g. body (slice_get P.funs g)) fs) fs f) ≡ size (args_of (slice_get P.funs f)) d
    by true q e rest = args_are (slice_get P.funs g) ready.0.fun there ∙ ap (λ n. size (args_of (slice_get P.funs n)) d) (let same : g ≡ f = grind (arith, nat_tests, q) in same)
    by false q e rest = rest e

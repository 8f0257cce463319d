-- Calls of typed normal forms give values of the result types.
use Rattle.std.proofs.Common.{◌≡◌, ℕ, zero, suc, List, [], ◌∷◌, map, Bool, true, false, cond, Some, refl, sym, ap, subst, ◌∙◌}
use Rattle.std.proofs.lemmas.Bool.{eqb-true}
use Rattle.std.specs.Prelude.{nat_eq, slice_get, ◌||◌}
use Rattle.raml_syntax.specs.Tree.{Type'}
use Rattle.raml_syntax.specs.Value.{Value, Has, HaveTypes}
use Rattle.normal_spec.specs.Norm.{NormFun, NormProg}
use Rattle.normal_spec.specs.Run.{NormEnv, value_at, bind_norm, walk_norm, enter_norm, norm_calls_at}
use Rattle.normal_spec.specs.Laws.{NormalRunsKeepTypes}
use Rattle.normal_spec.specs.Two.{among, find, has}
use Rattle.normal_spec.specs.Uses.{Context, Distinct, types_of, IsNormal}
use Rattle.std.specs.List.{All}
use Rattle.std.proofs.lemmas.List.Elements.{All-head, All-tail}
use Rattle.normal_spec.proofs.StepOne.{value_newest}
use Rattle.normal_spec.proofs.Runs.{value_bind}
use Rattle.normal_spec.proofs.KeepTypes.{Holds, walk_keeps}

pub all_at : (Q : NormFun → Type 0) (N : NormProg) (k : ℕ) (g : NormFun) → All Q N → slice_get N k ≡ Some g → Q g
all_at Q [] k g all e = absurd (cc)
all_at Q (d ∷ N) zero g all e = let same : d ≡ g = cc in subst Q same (All-head Q d N all)
all_at Q (d ∷ N) (suc k) g all e = all_at Q N k g (All-tail Q d N all) e

abbrev pub keys : Context → List ℕ
keys C = map (λ (p : ℕ × Type'). p.0) C

pub has_keys : (x : ℕ) (C : Context) → among x (keys C) ≡ has x C
has_keys x [] = refl
has_keys x (b ∷ C) = ap (λ z. nat_eq x b.0 || z) (has_keys x C)

pub holds_bind : (C : Context) (vs : List Value) (env : NormEnv) → Distinct C → HaveTypes vs (map (λ (p : ℕ × Type'). p.1) C) → Holds C (bind_norm env (keys C) vs)
holds_bind [] vs env d h = record { at = λ x A e. absurd (cc) }
holds_bind (b ∷ C) [] env d h = absurd h
holds_bind (b ∷ C) (v ∷ vs) env d h = record { at = λ x A e. by x A (nat_eq x b.0) refl ((holds_bind C vs ((b.0, v) ∷ env) d.1 h.1).at x A) e }
  where
    by : (x : ℕ) (A : Type') (c : Bool) → nat_eq x b.0 ≡ c → (find x C ≡ Some A → Has (value_at x (bind_norm ((b.0, v) ∷ env) (keys C) vs)) A) → cond c (Some b.1) (find x C) ≡ Some A → Has (value_at x (bind_norm ((b.0, v) ∷ env) (keys C) vs)) A
    by x A true q rest e =
        let same = eqb-true x b.0 q in
        let type : b.1 ≡ A = cc in
        let is : value_at x (bind_norm ((b.0, v) ∷ env) (keys C) vs) ≡ v =
        ap (λ z. value_at z (bind_norm ((b.0, v) ∷ env) (keys C) vs)) same ∙ value_bind (keys C) vs b.0 ((b.0, v) ∷ env) (has_keys b.0 C ∙ d.0) ∙ value_newest b.0 v env in
        subst (λ w. Has w A) (sym is) (subst (Has v) type h.0)
    by x A false q rest e = rest e

module _ (N : NormProg) (uses : (f : ℕ) (g : NormFun) → slice_get N f ≡ Some g → IsNormal N g) where
  pub calls_keep : (m f : ℕ) (g : NormFun) (vs : List Value) (v : Value) → slice_get N f ≡ Some g → HaveTypes vs (types_of g) → (norm_calls_at N m f vs).out ≡ Some v → Has v g.result
  calls_keep zero f g vs v q h e = absurd (cc)
  calls_keep (suc m) f g vs v q h e =
      let u = uses f g q in
      let e' : (enter_norm (walk_norm (norm_calls_at N m)) (Some g) vs).out ≡ Some v = ap (λ o. (enter_norm (walk_norm (norm_calls_at N m)) o vs).out) (sym q) ∙ e in
      walk_keeps N (norm_calls_at N m) (λ f g vs v. calls_keep m f g vs v) g.body g.params g.result (bind_norm [] (keys g.params) vs) v u.params u.body (holds_bind g.params vs [] u.params h) e'

pub normal_runs_keep_types : NormalRunsKeepTypes
normal_runs_keep_types N all g u args m v h e =
    walk_keeps N (norm_calls_at N m) (λ f g vs v. calls_keep N (λ f g q. all_at (IsNormal N) N f g all q) m f g vs v) g.body g.params g.result (bind_norm [] (keys g.params) args) v u.params u.body (holds_bind g.params args [] u.params h) e

-- What the functions that take tokens return.
use Rattle.std.proofs.Common.{◌≡◌, ◌≢◌, ◌≤◌, ◌<◌, ◌+◌, ℕ, suc, List, [], ◌∷◌, ◌++◌, length, map, refl, sym, ap, subst, ◌∙◌, arith, Result, Ok, Err, IfOk, take, drop, get_or, ◌-◌}
use Rattle.std.proofs.Math.Seq.{take-length}
use Rattle.std.specs.Borrow.{Bor}
use Rattle.std.specs.declared.alloc.AllocError.{AllocError}
use Rattle.raml_syntax.specs.Tree.{Type'}
use Rattle.raml_syntax.specs.Value as v
use Rattle.raml_syntax.specs.Value.{Value}
use Rattle.raml_syntax.specs.Read.{ty_of}
use Rattle.raml_syntax.specs.declared.ty.Ty.{Ty}
use Rattle.value_text.specs.declared.word.Word.{Word}
use Rattle.value_text.specs.declared.word.Word.TheVariants as w
use Rattle.value_text.specs.declared.sign.Sign.TheVariants as k
use Rattle.value_text.specs.declared.goal.Goal as d
use Rattle.value_text.specs.declared.goal.Goal.TheVariants as o
use Rattle.value_text.specs.declared.goal.Verdict.{Verdict}
use Rattle.value_text.specs.declared.goal.Verdict.TheVariants as a
use Rattle.value_text.specs.Held.{Held}
use Rattle.value_text.specs.Spelling.{Token, Key, Number, Truth, Other, most_height, sizes}
use Rattle.value_text.specs.Goals.{Value', First, Tail, More, Sane, more_goals, more_values, FitAll}
use Rattle.value_text.specs.State.{goal_of, goals_in, values_in, Taken, IsVerdict}
use Rattle.value_text.proofs.States.{goals_more, values_snoc}
use Rattle.value_text.proofs.Takings.{value_taken, first_taken}

pub sizes_more : (t : Token) (V : List Value) → sizes (more_values t V) ≡ sizes V
sizes_more (Number n) V = omega arith
sizes_more (Truth b) V = omega arith
sizes_more (Key k.Leaf) V = omega arith
sizes_more (Key k.Nothing) V = omega arith
sizes_more (Key k.Open) V = refl
sizes_more (Key k.Close) V = refl
sizes_more (Key k.Comma) V = refl
sizes_more (Key k.OpenList) V = refl
sizes_more (Key k.CloseList) V = refl
sizes_more (Key k.Node) V = refl
sizes_more (Key k.Just) V = refl
sizes_more Other V = refl

pub empty_put : (hs : List Held) (ws us : List Word) → us ≡ ws ++ w.Empty ∷ [] → values_in hs us [] ≡ v.Empty ∷ values_in hs ws []
empty_put hs ws us e = ap (λ l. values_in hs l []) e ∙ values_snoc hs ws w.Empty []

module _ (A : Type') (t : Token) (xs zs : List d.Goal) (ws us : List Word) where
  pub value_if : (r : Result Verdict AllocError) (l : ℕ) → Sane t → FitAll (goals_in xs []) → IfOk r (λ v. IsVerdict A l t v) → IfOk r (λ v. v ≡ a.Fits → goals_in zs [] ≡ more_goals A l t (goals_in xs [])) → IfOk r (λ v. v ≡ a.Fits → (hs : List Held) → values_in hs us [] ≡ more_values t (values_in hs ws [])) → IfOk r (λ v. (hs : List Held) → Taken v (Value' A l) t (goals_in xs []) (values_in hs ws []) (goals_in zs []) (values_in hs us []))
  value_if (Err e) l sane fits is eg ev = tt
  value_if (Ok x) l sane fits is eg ev = λ hs. value_taken A l t _ _ _ _ x sane is fits (λ e. (eg e, ev e hs))

  pub first_if : (r : Result Verdict AllocError) (l m : ℕ) (ys : List d.Goal) → m ≡ suc l → goals_in ys [] ≡ Tail A l 1 ∷ goals_in xs [] → Sane t → t ≢ Key k.CloseList → 1 + l ≤ most_height → FitAll (goals_in xs []) → IfOk r (λ v. IsVerdict A m t v) → IfOk r (λ v. v ≡ a.Fits → goals_in zs [] ≡ more_goals A m t (goals_in ys [])) → IfOk r (λ v. v ≡ a.Fits → (hs : List Held) → values_in hs us [] ≡ more_values t (values_in hs ws [])) → IfOk r (λ v. (hs : List Held) → Taken v (First A l) t (goals_in xs []) (values_in hs ws []) (goals_in zs []) (values_in hs us []))
  first_if (Err e) l m ys em ey sane differs low fits is eg ev = tt
  first_if (Ok x) l m ys em ey sane differs low fits is eg ev = λ hs. first_taken A l t _ _ _ _ x sane (subst (λ m. IsVerdict A m t x) em is) differs low fits (λ e. (eg e ∙ (λ i. more_goals A (em i) t (ey i)), ev e hs))

pub values_count : (t : Token) (ws us : List Word) (r : Result Verdict AllocError) → IfOk r (λ v. v ≡ a.Fits → (hs : List Held) → values_in hs us [] ≡ more_values t (values_in hs ws [])) → IfOk r (λ v. v ≡ a.Fits → (hs : List Held) → sizes (values_in hs us []) ≡ sizes (values_in hs ws []))
values_count t ws us (Err e) ev = tt
values_count t ws us (Ok x) ev = λ e hs. ap sizes (ev e hs) ∙ sizes_more t (values_in hs ws [])

pub tail_put : (xs zs : List d.Goal) (E : Bor Ty) (l m n p : ℕ) → zs ≡ xs ++ o.Tail E l p ∷ o.Value E m ∷ [] → m ≡ suc l → p ≡ suc n → goals_in zs [] ≡ Value' (ty_of E.now) (suc l) ∷ Tail (ty_of E.now) l (suc n) ∷ goals_in xs []
tail_put xs zs E l m n p ez em ep =
    ap (λ l. goals_in l []) ez ∙ goals_more xs (o.Tail E l p ∷ o.Value E m ∷ []) []
    ∙ (λ i. Value' (ty_of E.now) (em i) ∷ Tail (ty_of E.now) l (ep i) ∷ goals_in xs [])

pub more_put : (xs zs : List d.Goal) (first : Bor Ty) (rest : Bor (List Ty)) → zs ≡ xs ++ o.More rest ∷ o.Value first 0 ∷ [] → goals_in zs [] ≡ Value' (ty_of first.now) 0 ∷ More (map ty_of rest.now) ∷ goals_in xs []
more_put xs zs first rest ez = ap (λ l. goals_in l []) ez ∙ goals_more xs (o.More rest ∷ o.Value first 0 ∷ []) []

pub types_cut : (ts : List Ty) (x : Ty) → 1 ≤ length ts → x ≡ get_or ts 0 x → map ty_of ts ≡ ty_of x ∷ map ty_of (take (length ts - 1) (drop 1 ts))
types_cut [] x le e = absurd (omega (arith, le))
types_cut (y ∷ ts) x le e = (λ i. ty_of (sym e i) ∷ map ty_of (sym (take_all (length (y ∷ ts) - 1) ts (omega arith)) i))
  where
    take_all : (n : ℕ) (ts : List Ty) → n ≡ length ts → take n ts ≡ ts
    take_all n ts e = ap (λ n. take n ts) e ∙ take-length ts

pub types_none : (ts : List Ty) → length ts < 1 → map ty_of ts ≡ []
types_none [] le = refl
types_none (x ∷ ts) le = absurd (omega (arith, le))

pub value_if_goal : (goal : d.Goal) (E : Bor Ty) (l : ℕ) (t : Token) (xs zs : List d.Goal) (ws us : List Word) (r : Result Verdict AllocError) (hs : List Held) → goal ≡ o.Value E l → Sane t → FitAll (goals_in xs []) → IfOk r (λ v. IsVerdict (ty_of E.now) l t v) → IfOk r (λ v. v ≡ a.Fits → goals_in zs [] ≡ more_goals (ty_of E.now) l t (goals_in xs [])) → IfOk r (λ v. v ≡ a.Fits → (hs : List Held) → values_in hs us [] ≡ more_values t (values_in hs ws [])) → IfOk r (λ v. Taken v (goal_of goal) t (goals_in xs []) (values_in hs ws []) (goals_in zs []) (values_in hs us []))
value_if_goal goal E l t xs zs ws us (Err e) hs at sane fits is eg ev = tt
value_if_goal goal E l t xs zs ws us (Ok x) hs at sane fits is eg ev = subst (λ g. Taken x (goal_of g) t (goals_in xs []) (values_in hs ws []) (goals_in zs []) (values_in hs us [])) (sym at) (value_if (ty_of E.now) t xs zs ws us (Ok x) l sane fits is eg ev hs)

pub on_ok_at : {X E : Type 0} (P Q : ℕ → Type 0) (r : Result X E) (n : ℕ) → P n → IfOk r (λ x. (n : ℕ) → P n → Q n) → IfOk r (λ x. Q n)
on_ok_at P Q (Err e) n h k = tt
on_ok_at P Q (Ok x) n h k = k n h

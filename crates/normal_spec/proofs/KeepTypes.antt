-- Normal forms that use contexts of typed values give values of their types.
use Rattle.std.proofs.Common.{◌≡◌, ℕ, List, [], ◌∷◌, ◌++◌, Bool, true, false, cond, Option, Some, None, refl, sym, ap, subst, ◌∙◌}
use Rattle.std.specs.Int.{w64}
use Rattle.std.specs.Prelude.{nat_eq, slice_get, not, ◌||◌, ◌&&◌}
use Rattle.std.proofs.lemmas.Bool.{eqb-true, or_parts}
use Rattle.std.proofs.lemmas.Int.{SFits-int_wrap}
use Rattle.std.proofs.lemmas.Option.{same_Some}
use Rattle.raml_syntax.specs.Tree.{Type', Integer, Boolean, PairOf, ListOf, TreeOf, OptionOf}
use Rattle.raml_syntax.specs.Value.{Value, Number, Truth, Both, Empty, Cons, Node, Just, Has, HaveTypes}
use Rattle.raml_syntax.specs.Eval.{Run, cut, goes_on, and_then, branch, negation, pair_case, list_case, tree_case, option_case}
use Rattle.normal_spec.specs.Norm as n
use Rattle.normal_spec.specs.Norm.{NormFun, NormProg}
use Rattle.normal_spec.specs.Run.{NormEnv, value_at, values_at, NormCalls, spend, walk_norm}
use Rattle.normal_spec.specs.Two.{free_in, find, has, put, used, unused}
use Rattle.normal_spec.specs.Uses.{Context, AreNew, Distinct, Takes, types_of, parts_of, copies_of, Uses}
use Rattle.normal_spec.proofs.StepOne.{value_older}
use Rattle.normal_spec.proofs.Weights.{find_has, distinct_append, distinct_put, distinct_used, distinct_unused, has_unused}
use Rattle.normal_spec.proofs.Opened.{as_put}
use Rattle.normal_spec.proofs.FreeUses.{new_apart}

-- each variable of the context has a value of its type
pub record Holds (C : Context) (env : NormEnv) : Type 0 where
  pub at : (x : ℕ) (A : Type') → find x C ≡ Some A → Has (value_at x env) A

-- what is found in a list with an entry replaced
find_append : (y : ℕ) (A : Type') (G H : Context) → find y (G ++ H) ≡ Some A → (P : Type 0) → (find y G ≡ Some A → P) → (find y H ≡ Some A → P) → P
find_append y A [] H e P f g = g e
find_append y A (s ∷ G) H e P f g = by (λ e f. find_append y A G H e P f g) (nat_eq y s.0) e f
  where
    by : (find y (G ++ H) ≡ Some A → (find y G ≡ Some A → P) → P) → (b : Bool) → cond b (Some s.1) (find y (G ++ H)) ≡ Some A → (cond b (Some s.1) (find y G) ≡ Some A → P) → P
    by rest true e f = f e
    by rest false e f = rest e f

absent_find : (y : ℕ) (A : Type') (C : Context) → has y C ≡ false → find y C ≡ Some A → ⊥
absent_find y A C h e = let q = find_has y A C e in absurd (cc)

find_put : (x y : ℕ) (A : Type') (H C : Context) → Distinct C → find y (put x H C) ≡ Some A → (P : Type 0) → (find y H ≡ Some A → P) → (find y C ≡ Some A → P) → P
find_put x y A H [] d e P f g = f e
find_put x y A H (s ∷ C) d e P f g = by (λ e g. find_put x y A H C d.1 e P f g) (nat_eq x s.0) refl (nat_eq y s.0) refl e g
  where
    by : (find y (put x H C) ≡ Some A → (find y C ≡ Some A → P) → P) → (b : Bool) → nat_eq x s.0 ≡ b → (i : Bool) → nat_eq y s.0 ≡ i → find y (cond b (H ++ C) (s ∷ put x H C)) ≡ Some A → (cond i (Some s.1) (find y C) ≡ Some A → P) → P
    by rest true p true q e g = find_append y A H C e P f (λ c. absurd (absent_find y A C (ap (λ z. has z C) (eqb-true y s.0 q) ∙ d.0) c))
    by rest true p false q e g = find_append y A H C e P f g
    by rest false p true q e g = g (sym (ap (λ b. cond b (Some s.1) (find y (put x H C))) q) ∙ e)
    by rest false p false q e g = rest (sym (ap (λ b. cond b (Some s.1) (find y (put x H C))) q) ∙ e) g

find_used : (m : n.Norm) (y : ℕ) (A : Type') (C : Context) → Distinct C → find y (used m C) ≡ Some A → find y C ≡ Some A
find_used m y A [] d e = e
find_used m y A (s ∷ C) d e = by (find_used m y A C d.1) (free_in s.0 m) (nat_eq y s.0) refl e
  where
    by : (find y (used m C) ≡ Some A → find y C ≡ Some A) → (b i : Bool) → nat_eq y s.0 ≡ i → find y (cond b (s ∷ used m C) (used m C)) ≡ Some A → cond i (Some s.1) (find y C) ≡ Some A
    by rest true true q e = sym (ap (λ b. cond b (Some s.1) (find y (used m C))) q) ∙ e
    by rest true false q e = rest (sym (ap (λ b. cond b (Some s.1) (find y (used m C))) q) ∙ e)
    by rest false true q e = absurd (absent_find y A C (ap (λ z. has z C) (eqb-true y s.0 q) ∙ d.0) (rest e))
    by rest false false q e = rest e

find_unused : (m : n.Norm) (y : ℕ) (A : Type') (C : Context) → Distinct C → find y (unused m C) ≡ Some A → find y C ≡ Some A
find_unused m y A [] d e = e
find_unused m y A (s ∷ C) d e = by (find_unused m y A C d.1) (free_in s.0 m) (nat_eq y s.0) refl e
  where
    by : (find y (unused m C) ≡ Some A → find y C ≡ Some A) → (b i : Bool) → nat_eq y s.0 ≡ i → find y (cond b (unused m C) (s ∷ unused m C)) ≡ Some A → cond i (Some s.1) (find y C) ≡ Some A
    by rest false true q e = sym (ap (λ b. cond b (Some s.1) (find y (unused m C))) q) ∙ e
    by rest false false q e = rest (sym (ap (λ b. cond b (Some s.1) (find y (unused m C))) q) ∙ e)
    by rest true true q e = absurd (absent_find y A C (ap (λ z. has z C) (eqb-true y s.0 q) ∙ d.0) (rest e))
    by rest true false q e = rest e

-- one more variable, which is new
holds_more : (C : Context) (env : NormEnv) (p : ℕ) (v : Value) (A : Type') → has p C ≡ false → Has v A → Holds C env → (y : ℕ) (B : Type') → find y C ≡ Some B → Has (value_at y ((p, v) ∷ env)) B
holds_more C env p v A new hv h y B e =
    subst (λ w. Has w B) (sym (value_older y p v env (λ q. absent_find p B C new (ap (λ z. find z C) (sym q) ∙ e)))) (h.at y B e)

holds_gone : (x : ℕ) (C : Context) (env : NormEnv) → Distinct C → Holds C env → Holds (put x [] C) env
holds_gone x C env d h = record { at = λ y B e. find_put x y B [] C d e (Has (value_at y env) B) (λ q. absurd (cc)) (h.at y B) }

-- the newest variables
here_one : (p : ℕ) (A : Type') (v : Value) (env : NormEnv) (y : ℕ) (B : Type') → Has v A → cond (nat_eq y p) (Some A) None ≡ Some B → Has (value_at y ((p, v) ∷ env)) B
here_one p A v env y B hv e = by (nat_eq y p) e
  where
    by : (b : Bool) → cond b (Some A) None ≡ Some B → Has (cond b v (value_at y env)) B
    by true e = subst (Has v) (same_Some A B e) hv
    by false e = absurd (cc)

holds_one : (x : ℕ) (C : Context) (env : NormEnv) (p : ℕ) (A : Type') (v : Value) → Distinct C → AreNew (p ∷ []) C → Has v A → Holds C env → Holds (put x ((p, A) ∷ []) C) ((p, v) ∷ env)
holds_one x C env p A v d new hv h = record {
  at = λ y T e.
      find_put x y T ((p, A) ∷ []) C d e (Has (value_at y ((p, v) ∷ env)) T) (here_one p A v env y T hv) (holds_more C env p v A new.0 hv h y T);
}

holds_two : (x : ℕ) (C : Context) (env : NormEnv) (p q : ℕ) (A B : Type') (v w : Value) → Distinct C → AreNew (p ∷ q ∷ []) C → Has v A → Has w B → Holds C env → Holds (put x ((p, A) ∷ (q, B) ∷ []) C) ((q, w) ∷ (p, v) ∷ env)
holds_two x C env p q A B v w d new hv hw h = record {
  at = λ y T e.
      find_put x y T ((p, A) ∷ (q, B) ∷ []) C d e (Has (value_at y ((q, w) ∷ (p, v) ∷ env)) T)
      (λ f. both y T (nat_eq y p) refl (nat_eq y q) refl f)
      (λ f. holds_more C ((p, v) ∷ env) q w B new.2.0 hw (record { at = holds_more C env p v A new.0 hv h }) y T f);
}
  where
    both : (y : ℕ) (T : Type') (b : Bool) → nat_eq y p ≡ b → (c : Bool) → nat_eq y q ≡ c → cond b (Some A) (cond c (Some B) None) ≡ Some T → Has (value_at y ((q, w) ∷ (p, v) ∷ env)) T
    both y T true e true f g = let a : nat_eq p q ≡ true = ap (λ z. nat_eq z q) (sym (eqb-true y p e)) ∙ f in let z : nat_eq p q ≡ false = two_apart (nat_eq p q) new.1 in absurd (cc)
      where
        two_apart : (a : Bool) → (a || false) ≡ false → a ≡ false
        two_apart true h = absurd (cc)
        two_apart false h = refl
    both y T true e false f g =
        subst (λ u. Has u T) (sym (ap (λ b. cond b w (value_at y ((p, v) ∷ env))) f ∙ ap (λ b. cond b v (value_at y env)) e)) (subst (Has v) (same_Some A T g) hv)
    both y T false e true f g = subst (λ u. Has u T) (sym (ap (λ b. cond b w (value_at y ((p, v) ∷ env))) f)) (subst (Has w) (same_Some B T g) hw)
    both y T false e false f g = absurd (cc)

takes_have : (C : Context) (xs : List ℕ) (As : List Type') (env : NormEnv) → Distinct C → Takes C xs As → Holds C env → HaveTypes (values_at xs env) As
takes_have C [] [] env d t h = tt
takes_have C [] (A ∷ As) env d t h = absurd t
takes_have C (x ∷ xs) [] env d t h = absurd t
takes_have C (x ∷ xs) (A ∷ As) env d t h = (h.at x A t.0, takes_have (put x [] C) xs As env (distinct_put x [] C d tt (λ z ne q. refl)) t.1 (holds_gone x C env d h))

two_apart : (a : Bool) → (a || false) ≡ false → a ≡ false
two_apart true h = absurd (cc)
two_apart false h = refl

holds_three : (x : ℕ) (C : Context) (env : NormEnv) (p q r : ℕ) (A B D : Type') (u v w : Value) → Distinct C → AreNew (p ∷ q ∷ r ∷ []) C → Has u A → Has v B → Has w D → Holds C env → Holds (put x ((p, A) ∷ (q, B) ∷ (r, D) ∷ []) C) ((r, w) ∷ (q, v) ∷ (p, u) ∷ env)
holds_three x C env p q r A B D u v w d new hu hv hw h = record {
  at = λ y T e.
      find_put x y T ((p, A) ∷ (q, B) ∷ (r, D) ∷ []) C d e (Has (value_at y ((r, w) ∷ (q, v) ∷ (p, u) ∷ env)) T)
      (λ f. all y T (nat_eq y p) refl (nat_eq y q) refl (nat_eq y r) refl f)
      (λ f. holds_more C ((q, v) ∷ (p, u) ∷ env) r w D new.2.2.0 hw (record { at = holds_more C ((p, u) ∷ env) q v B new.2.0 hv (record { at = holds_more C env p u A new.0 hu h }) }) y T f);
}
  where
    meet : (a b y : ℕ) → nat_eq a b ≡ false → nat_eq y a ≡ true → nat_eq y b ≡ true → ⊥
    meet a b y ne e f = let z : nat_eq a b ≡ true = ap (λ z. nat_eq z b) (sym (eqb-true y a e)) ∙ f in absurd (cc)

    all : (y : ℕ) (T : Type') (a : Bool) → nat_eq y p ≡ a → (b : Bool) → nat_eq y q ≡ b → (c : Bool) → nat_eq y r ≡ c → cond a (Some A) (cond b (Some B) (cond c (Some D) None)) ≡ Some T → Has (value_at y ((r, w) ∷ (q, v) ∷ (p, u) ∷ env)) T
    all y T true ep true eq c er g = absurd (meet p q y (or_parts _ _ new.1).0 ep eq)
    all y T true ep false eq true er g = absurd (meet p r y (two_apart _ (or_parts (nat_eq p q) _ new.1).1) ep er)
    all y T true ep false eq false er g =
        subst (λ z. Has z T) (sym (ap (λ b. cond b w (value_at y ((q, v) ∷ (p, u) ∷ env))) er ∙ ap (λ b. cond b v (value_at y ((p, u) ∷ env))) eq ∙ ap (λ b. cond b u (value_at y env)) ep)) (subst (Has u) (same_Some A T g) hu)
    all y T false ep true eq true er g = absurd (meet q r y (two_apart _ new.2.1) eq er)
    all y T false ep true eq false er g =
        subst (λ z. Has z T) (sym (ap (λ b. cond b w (value_at y ((q, v) ∷ (p, u) ∷ env))) er ∙ ap (λ b. cond b v (value_at y ((p, u) ∷ env))) eq)) (subst (Has v) (same_Some B T g) hv)
    all y T false ep false eq true er g = subst (λ z. Has z T) (sym (ap (λ b. cond b w (value_at y ((q, v) ∷ (p, u) ∷ env))) er)) (subst (Has w) (same_Some D T g) hw)
    all y T false ep false eq false er g = absurd (cc)

-- a value of a run in two parts comes from a value of the first
then_inv : {A B : Type 0} (r : Run A) (f : A → Run B) (y : B) → (and_then r f).out ≡ Some y → (x : A) × (r.out ≡ Some x) × ((f x).out ≡ Some y)
then_inv {A} {B} r f y e = by r.out refl e
  where
    by : (o : Option A) → r.out ≡ o → (goes_on o f).out ≡ Some y → (x : A) × (r.out ≡ Some x) × ((f x).out ≡ Some y)
    by None q e = absurd (cc)
    by (Some x) q e = (x, q, e)

gives : (T : Type') (v w : Value) → Some v ≡ Some w → Has v T → Has w T
gives T v w e h = subst (λ x. Has x T) (same_Some v w e) h

pub negation_has : (v : Value) → Has (negation v) Boolean
negation_has (Truth true) = tt
negation_has _ = tt

new_two_distinct : (x p q : ℕ) (A B : Type') (C : Context) → Distinct C → AreNew (p ∷ q ∷ []) C → Distinct (put x ((p, A) ∷ (q, B) ∷ []) C)
new_two_distinct x p q A B C d new = distinct_put x ((p, A) ∷ (q, B) ∷ []) C d (new.1, (refl, tt)) (λ z ne h. new_apart (p ∷ q ∷ []) C z new h)

module _ (N : NormProg) (call : NormCalls) (calls : (f : ℕ) (g : NormFun) (vs : List Value) (v : Value) → slice_get N f ≡ Some g → HaveTypes vs (types_of g) → (call f vs).out ≡ Some v → Has v g.result) where
  pub walk_keeps : (m : n.Norm) (C : Context) (T : Type') (env : NormEnv) (v : Value) → Distinct C → Uses N C m T → Holds C env → (walk_norm call m env).out ≡ Some v → Has v T
  walk_keeps (n.Var k x) C T env v d u h e = gives T _ v e (takes_have C (x ∷ []) (T ∷ []) env d u h).0
  walk_keeps (n.Number k i) C T env v d u h e = subst (Has v) (sym u.0) (gives Integer (Number i) v e u.1)
  walk_keeps (n.Truth k b) C T env v d u h e = subst (Has v) (sym u.0) (gives Boolean (Truth b) v e tt)
  walk_keeps (n.Nil k) C T env v d u h e = gives T Empty v e (subst (Has Empty) (sym u.0.1) tt)
  walk_keeps (n.Leaf k) C T env v d u h e = gives T Empty v e (subst (Has Empty) (sym u.0.1) tt)
  walk_keeps (n.Nothing k) C T env v d u h e = gives T Empty v e (subst (Has Empty) (sym u.0.1) tt)
  walk_keeps (n.Arith k op x y) C T env v d u h e = subst (Has v) (sym u.0) (gives Integer _ v e (SFits-int_wrap w64 _))
  walk_keeps (n.Compare k op x y) C T env v d u h e = subst (Has v) (sym u.0) (gives Boolean _ v e tt)
  walk_keeps (n.Not k x) C T env v d u h e = subst (Has v) (sym u.0) (gives Boolean _ v e (negation_has (value_at x env)))
  walk_keeps (n.Pair k x y) C T env v d u h e =
      let t = takes_have C (x ∷ y ∷ []) (u.0 ∷ u.1 ∷ []) env d u.3 h in
      subst (Has v) (sym u.2) (gives (PairOf u.0 u.1) (Both (value_at x env) (value_at y env)) v e (t.0, t.1.0))
  walk_keeps (n.Cons k x y) C T env v d u h e =
      let t = takes_have C (x ∷ y ∷ []) (u.0 ∷ ListOf u.0 ∷ []) env d u.2 h in
      subst (Has v) (sym u.1) (gives (ListOf u.0) (Cons (value_at x env) (value_at y env)) v e (t.0, t.1.0))
  walk_keeps (n.Node k x y z) C T env v d u h e =
      let t = takes_have C (x ∷ y ∷ z ∷ []) (u.0 ∷ TreeOf u.0 ∷ TreeOf u.0 ∷ []) env d u.2 h in
      subst (Has v) (sym u.1) (gives (TreeOf u.0) (Node (value_at x env) (value_at y env) (value_at z env)) v e (t.0, t.1.0, t.1.1.0))
  walk_keeps (n.Just k x) C T env v d u h e =
      let t = takes_have C (x ∷ []) (u.0 ∷ []) env d u.2 h in
      subst (Has v) (sym u.1) (gives (OptionOf u.0) (Just (value_at x env)) v e t.0)
  walk_keeps (n.Call k f xs) C T env v d u h e = subst (Has v) (sym u.2) (calls f u.0 (values_at xs env) v u.1 (takes_have C xs (types_of u.0) env d u.3 h) e)
  walk_keeps (n.Let k x A a b) C T env v d u h e =
      let p = then_inv (walk_norm call a env) (λ w. walk_norm call b ((x, w) ∷ env)) v e in
      let w = p.0 in
      let hw = walk_keeps a (used a C) A env w (distinct_used a C d) u.1 (record { at = λ y B f. h.at y B (find_used a y B C d f) }) p.1 in
      let old : Holds (unused a C) env = record { at = λ y B f. h.at y B (find_unused a y B C d f) } in
      let gone : has x (unused a C) ≡ false = has_unused a x C ∙ none (free_in x a) u.0.0 in
      walk_keeps b (unused a C ++ (x, A) ∷ []) T ((x, w) ∷ env) v (distinct_append (unused a C) ((x, A) ∷ []) (distinct_unused a C d) (refl, tt) (λ y s. apart y (nat_eq y x) refl gone s)) u.2
      (record { at = λ y B f. find_append y B (unused a C) ((x, A) ∷ []) f (Has (value_at y ((x, w) ∷ env)) B) (holds_more (unused a C) env x w A gone hw old y B) (here_one x A w env y B hw) }) p.2
    where
      none : (c : Bool) → has x C ≡ false → (not c && has x C) ≡ false
      none true q = refl
      none false q = q

      apart : (y : ℕ) (c : Bool) → nat_eq y x ≡ c → has x (unused a C) ≡ false → has y (unused a C) ≡ true → (c || false) ≡ false
      apart y true q g s = let z : has y (unused a C) ≡ false = ap (λ z. has z (unused a C)) (eqb-true y x q) ∙ g in absurd (cc)
      apart y false q g s = refl
  walk_keeps (n.Split k x p q a) C T env v d u h e = by (value_at x env) (h.at x (PairOf u.0 u.1) u.2) (λ s r hs hr e. walk_keeps a (put x ((p, u.0) ∷ (q, u.1) ∷ []) C) T ((q, r) ∷ (p, s) ∷ env) v (new_two_distinct x p q u.0 u.1 C d u.3) (as_put N x (p ∷ q ∷ []) parts_of (PairOf u.0 u.1) C u.2 a T u.4) (holds_two x C env p q u.0 u.1 s r d u.3 hs hr h) e) e
    where
      by : (w : Value) → Has w (PairOf u.0 u.1) → ((s r : Value) → Has s u.0 → Has r u.1 → (walk_norm call a ((q, r) ∷ (p, s) ∷ env)).out ≡ Some v → Has v T) → (spend k (pair_case w cut (λ s r. walk_norm call a ((q, r) ∷ (p, s) ∷ env)))).out ≡ Some v → Has v T
      by (Both s r) hw f e = f s r hw.0 hw.1 e
      by _ hw f e = absurd hw
  walk_keeps (n.If k x a b) C T env v d u h e =
      by (value_at x env)
      (walk_keeps a (put x [] C) T env v (distinct_put x [] C d tt (λ z ne q. refl)) u.1 (holds_gone x C env d h))
      (walk_keeps b (put x [] C) T env v (distinct_put x [] C d tt (λ z ne q. refl)) u.2 (holds_gone x C env d h)) e
    where
      by : (w : Value) → ((walk_norm call a env).out ≡ Some v → Has v T) → ((walk_norm call b env).out ≡ Some v → Has v T) → (spend k (branch w (walk_norm call a env) (walk_norm call b env))).out ≡ Some v → Has v T
      by (Truth true) f g e = f e
      by _ f g e = g e
  walk_keeps (n.CaseList k x a p q b) C T env v d u h e =
      by (value_at x env) (h.at x (ListOf u.0) u.1)
      (walk_keeps a (put x [] C) T env v (distinct_put x [] C d tt (λ z ne q. refl)) u.3 (holds_gone x C env d h))
      (λ s r hs hr e. walk_keeps b (put x ((p, u.0) ∷ (q, ListOf u.0) ∷ []) C) T ((q, r) ∷ (p, s) ∷ env) v (new_two_distinct x p q u.0 (ListOf u.0) C d u.2) (as_put N x (p ∷ q ∷ []) parts_of (ListOf u.0) C u.1 b T u.4) (holds_two x C env p q u.0 (ListOf u.0) s r d u.2 hs hr h) e) e
    where
      by : (w : Value) → Has w (ListOf u.0) → ((walk_norm call a env).out ≡ Some v → Has v T) → ((s r : Value) → Has s u.0 → Has r (ListOf u.0) → (walk_norm call b ((q, r) ∷ (p, s) ∷ env)).out ≡ Some v → Has v T) → (spend k (list_case w (walk_norm call a env) (λ s r. walk_norm call b ((q, r) ∷ (p, s) ∷ env)))).out ≡ Some v → Has v T
      by (Cons s r) hw f g e = g s r hw.0 hw.1 e
      by Empty hw f g e = f e
      by _ hw f g e = absurd hw
  walk_keeps (n.CaseTree k x a p q s b) C T env v d u h e =
      by (value_at x env) (h.at x (TreeOf u.0) u.1)
      (walk_keeps a (put x [] C) T env v (distinct_put x [] C d tt (λ z ne q. refl)) u.3 (holds_gone x C env d h))
      (λ w l r hw hl hr e. walk_keeps b (put x ((p, u.0) ∷ (q, TreeOf u.0) ∷ (s, TreeOf u.0) ∷ []) C) T ((s, r) ∷ (q, l) ∷ (p, w) ∷ env) v
      (distinct_put x ((p, u.0) ∷ (q, TreeOf u.0) ∷ (s, TreeOf u.0) ∷ []) C d (u.2.1, (u.2.2.1, (refl, tt))) (λ z ne q'. new_apart (p ∷ q ∷ s ∷ []) C z u.2 q')) (as_put N x (p ∷ q ∷ s ∷ []) parts_of (TreeOf u.0) C u.1 b T u.4) (holds_three x C env p q s u.0 (TreeOf u.0) (TreeOf u.0) w l r d u.2 hw hl hr h) e) e
    where
      by : (t : Value) → Has t (TreeOf u.0) → ((walk_norm call a env).out ≡ Some v → Has v T) → ((w l r : Value) → Has w u.0 → Has l (TreeOf u.0) → Has r (TreeOf u.0) → (walk_norm call b ((s, r) ∷ (q, l) ∷ (p, w) ∷ env)).out ≡ Some v → Has v T) → (spend k (tree_case t (walk_norm call a env) (λ w l r. walk_norm call b ((s, r) ∷ (q, l) ∷ (p, w) ∷ env)))).out ≡ Some v → Has v T
      by (Node w l r) ht f g e = g w l r ht.0 ht.1 ht.2 e
      by Empty ht f g e = f e
      by _ ht f g e = absurd ht
  walk_keeps (n.CaseOption k x a w b) C T env v d u h e =
      by (value_at x env) (h.at x (OptionOf u.0) u.1)
      (walk_keeps a (put x [] C) T env v (distinct_put x [] C d tt (λ z ne q. refl)) u.3 (holds_gone x C env d h))
      (λ s hs e. walk_keeps b (put x ((w, u.0) ∷ []) C) T ((w, s) ∷ env) v (distinct_put x ((w, u.0) ∷ []) C d (refl, tt) (λ z ne q'. new_apart (w ∷ []) C z u.2 q'))
      (as_put N x (w ∷ []) parts_of (OptionOf u.0) C u.1 b T u.4) (holds_one x C env w u.0 s d u.2 hs h) e) e
    where
      by : (t : Value) → Has t (OptionOf u.0) → ((walk_norm call a env).out ≡ Some v → Has v T) → ((s : Value) → Has s u.0 → (walk_norm call b ((w, s) ∷ env)).out ≡ Some v → Has v T) → (spend k (option_case t (walk_norm call a env) (λ s. walk_norm call b ((w, s) ∷ env)))).out ≡ Some v → Has v T
      by (Just s) ht f g e = g s ht e
      by Empty ht f g e = f e
      by _ ht f g e = absurd ht
  walk_keeps (n.Tick k i a) C T env v d u h e = walk_keeps a C T env v d u h e
  walk_keeps (n.Share k x p q a) C T env v d u h e =
      let w = value_at x env in
      let hw = h.at x u.0 u.1 in
      walk_keeps a (put x ((p, u.0) ∷ (q, u.0) ∷ []) C) T ((q, w) ∷ (p, w) ∷ env) v (new_two_distinct x p q u.0 u.0 C d u.2) (as_put N x (p ∷ q ∷ []) copies_of u.0 C u.1 a T u.3) (holds_two x C env p q u.0 u.0 w w d u.2 hw hw h) e
  walk_keeps (n.Drop k x a) C T env v d u h e = walk_keeps a (put x [] C) T env v (distinct_put x [] C d tt (λ z ne q. refl)) u.2 (holds_gone x C env d h) e

-- The meaning of expressions by the levels of their variables.
use Rattle.std.proofs.Common.{◌≡◌, ◌∙◌, ◌<◌, ℕ, suc, List, [], ◌∷◌, length, map, Bool, true, false, cond, Option, Some, None, refl, sym, ap, arith}
use Rattle.std.specs.Prelude.{nat_eq}
use Rattle.std.specs.Str.{bytes_eq}
use Rattle.std.proofs.lemmas.Slice.Eq.{bytes_eq-Decides}
use Rattle.std.proofs.lemmas.Option.{same_Some}
use Rattle.std.proofs.lemmas.Bool.{eq-eqb, eqb-true}
use Rattle.raml_syntax.specs.Tree as t
use Rattle.raml_syntax.specs.Tree.{Text, Bound, Parameter, Function}
use Rattle.raml_syntax.specs.Value.{Value, Both, Cons, Node, Just}
use Rattle.raml_syntax.specs.Eval as e
use Rattle.raml_syntax.specs.Eval.{Env, Calls, look, walk, walk_all, bind_all, names_of, node, and_then, done, new_cell, cut, costs, compare, branch, negation, pair_case, list_case, tree_case, option_case}
use Rattle.explain_scopes.specs.Scopes.{Scope, bound_to, bind_parameters, parameter}
use Rattle.explain_scopes.specs.Levels.{level_of, at_level, level_name, leveled, leveled_all, env_by_level, names_in_scope, names_in_env, BindingsAreMeant}

pub bytes_same : (x : Text) → bytes_eq x x ≡ true
bytes_same x = (bytes_eq-Decides x x).1 refl

-- levels are below the number of variables
level_below : (x : Text) (s : Scope) (k : ℕ) → level_of x s ≡ Some k → k < length s
level_below x [] k is = absurd (cc)
level_below x (b ∷ s) k is = by (λ one. level_below x s k one) (bytes_eq x b.name) is
  where
    by : (level_of x s ≡ Some k → k < length s) → (c : Bool) → cond c (Some (length s)) (level_of x s) ≡ Some k → k < suc (length s)
    by outer true one = let same = same_Some (length s) k one in omega (arith, same)
    by outer false one = let below = outer one in omega (arith, below)

single : (k n : ℕ) → k ∷ [] ≡ n ∷ [] → k ≡ n
single k n is = cc

-- no variable is at the level of the next one
not_next : (x : Text) (s : Scope) → bytes_eq (level_name (level_of x s)) (length s ∷ []) ≡ false
not_next x s = by (level_of x s) refl
  where
    differs : (k : ℕ) → level_of x s ≡ Some k → (c : Bool) → bytes_eq (k ∷ []) (length s ∷ []) ≡ c → c ≡ false
    differs k at true is =
        let same = single k (length s) ((bytes_eq-Decides (k ∷ []) (length s ∷ [])).0 is) in
        let below = level_below x s k at in
        absurd (omega (arith, same, below))
    differs k at false is = refl

    by : (o : Option ℕ) → level_of x s ≡ o → bytes_eq (level_name o) (length s ∷ []) ≡ false
    by None at = refl
    by (Some k) at = differs k at (bytes_eq (k ∷ []) (length s ∷ [])) refl

first_same : (x y : Text) (xs ys : List Text) → x ∷ xs ≡ y ∷ ys → x ≡ y
first_same x y xs ys is = cc

rest_same : (x y : Text) (xs ys : List Text) → x ∷ xs ≡ y ∷ ys → xs ≡ ys
rest_same x y xs ys is = cc

-- a variable is looked up by its level
looks : (x : Text) (s : Scope) (env : Env) → names_in_scope s ≡ names_in_env env → look x env ≡ look (level_name (level_of x s)) (env_by_level s env)
looks x [] [] same = refl
looks x [] (v ∷ env) same = absurd (cc)
looks x (b ∷ s) [] same = absurd (cc)
looks x (b ∷ s) (v ∷ env) same =
    let first = first_same b.name v.0 (names_in_scope s) (names_in_env env) same in
    let rest = rest_same b.name v.0 (names_in_scope s) (names_in_env env) same in
    ap (λ y. cond (bytes_eq x y) v.1 (look x env)) (sym first) ∙ by (looks x s env rest) (bytes_eq x b.name)
  where
    by : look x env ≡ look (level_name (level_of x s)) (env_by_level s env) → (c : Bool) →
        cond c v.1 (look x env) ≡ look (level_name (cond c (Some (length s)) (level_of x s))) ((length s ∷ [], v.1) ∷ env_by_level s env)
    by outer true = sym (ap (λ c. cond c v.1 (look (length s ∷ []) (env_by_level s env))) (bytes_same (length s ∷ [])))
    by outer false = outer ∙ sym (ap (λ c. cond c v.1 (look (level_name (level_of x s)) (env_by_level s env))) (not_next x s))

module _ (rename : Text → Text) (call other : Calls) (calls : (f : Text) (vs : List Value) → call f vs ≡ other (rename f) vs) where
  mutual
    walks : (s : Scope) (env : Env) (term : t.Term) → names_in_scope s ≡ names_in_env env → walk call term env ≡ walk other (leveled rename s term) (env_by_level s env)
    walks s env (t.Number p n) same = refl
    walks s env (t.Truth p b) same = refl
    walks s env (t.Nil p) same = refl
    walks s env (t.Leaf p) same = refl
    walks s env (t.Nothing p) same = refl
    walks s env (t.Var p x) same = λ i. node (done (looks x s env same i))
    walks s env (t.Arith p op a b) same = λ i. node (and_then (walks s env a same i) (λ v. and_then (walks s env b same i) (λ w. done (e.arith op v w))))
    walks s env (t.Compare p op a b) same = λ i. node (and_then (walks s env a same i) (λ v. and_then (walks s env b same i) (λ w. done (compare op v w))))
    walks s env (t.Not p a) same = λ i. node (and_then (walks s env a same i) (λ v. done (negation v)))
    walks s env (t.Pair p a b) same = λ i. node (and_then (walks s env a same i) (λ v. and_then (walks s env b same i) (λ w. new_cell (Both v w))))
    walks s env (t.Cons p a b) same = λ i. node (and_then (walks s env a same i) (λ v. and_then (walks s env b same i) (λ w. new_cell (Cons v w))))
    walks s env (t.Node p a b c) same = λ i. node (and_then (walks s env a same i) (λ u. and_then (walks s env b same i) (λ v. and_then (walks s env c same i) (λ w. new_cell (Node u v w)))))
    walks s env (t.Just p a) same = λ i. node (and_then (walks s env a same i) (λ v. new_cell (Just v)))
    walks s env (t.Call p f args) same = λ i. node (and_then (walks_all s env args same i) (λ vs. calls f vs i))
    walks s env (t.Let p x a b) same = λ i. node (and_then (walks s env a same i) (λ v. walks (x ∷ s) ((x.name, v) ∷ env) b (ap (λ ns. x.name ∷ ns) same) i))
    walks s env (t.LetPair p x y a b) same =
        λ i. node (and_then (walks s env a same i) (λ v. pair_case v cut (λ l r. walks (y ∷ x ∷ s) ((y.name, r) ∷ (x.name, l) ∷ env) b (ap (λ ns. y.name ∷ x.name ∷ ns) same) i)))
    walks s env (t.If p c a b) same = λ i. node (and_then (walks s env c same i) (λ v. branch v (walks s env a same i) (walks s env b same i)))
    walks s env (t.MatchList p c a x y b) same =
        λ i. node (and_then (walks s env c same i) (λ v. list_case v (walks s env a same i) (λ h r. walks (y ∷ x ∷ s) ((y.name, r) ∷ (x.name, h) ∷ env) b (ap (λ ns. y.name ∷ x.name ∷ ns) same) i)))
    walks s env (t.MatchTree p c a x y z b) same =
        λ i. node (and_then (walks s env c same i) (λ v. tree_case v (walks s env a same i) (λ d l r. walks (z ∷ y ∷ x ∷ s) ((z.name, r) ∷ (y.name, l) ∷ (x.name, d) ∷ env) b (ap (λ ns. z.name ∷ y.name ∷ x.name ∷ ns) same) i)))
    walks s env (t.MatchOption p c a x b) same =
        λ i. node (and_then (walks s env c same i) (λ v. option_case v (walks s env a same i) (λ w. walks (x ∷ s) ((x.name, w) ∷ env) b (ap (λ ns. x.name ∷ ns) same) i)))
    walks s env (t.Tick p k a) same = λ i. node (costs k 0 0 (walks s env a same i))
    walks s env (t.Typed p a A) same = walks s env a same

    walks_all : (s : Scope) (env : Env) (ts : t.Terms) → names_in_scope s ≡ names_in_env env → walk_all call ts env ≡ walk_all other (leveled_all rename s ts) (env_by_level s env)
    walks_all s env t.None same = refl
    walks_all s env (t.More a rest) same = λ i. and_then (walks s env a same i) (λ v. and_then (walks_all s env rest same i) (λ vs. done (v ∷ vs)))

pub levels : (x : Text) (s : Scope) → bound_to x s ≡ at_level s (level_of x s)
levels x [] = refl
levels x (b ∷ s) = by (levels x s) (bytes_eq x b.name)
  where
    behind : (o : Option ℕ) → ((k : ℕ) → o ≡ Some k → k < length s) → at_level s o ≡ at_level (b ∷ s) o
    behind None below = refl
    behind (Some k) below = differs k (below k refl) (nat_eq k (length s)) refl
      where
        differs : (k : ℕ) → k < length s → (c : Bool) → nat_eq k (length s) ≡ c → at_level s (Some k) ≡ cond c (Some b.at) (at_level s (Some k))
        differs k less true is = let same = eqb-true k (length s) is in absurd (omega (arith, less, same))
        differs k less false is = refl

    by : bound_to x s ≡ at_level s (level_of x s) → (c : Bool) →
        cond c (Some b.at) (bound_to x s) ≡ at_level (b ∷ s) (cond c (Some (length s)) (level_of x s))
    by outer true = sym (ap (λ c. cond c (Some b.at) (at_level s (Some (length s)))) (eq-eqb (length s) (length s) refl))
    by outer false = outer ∙ behind (level_of x s) (level_below x s)

bodies : (ps : List Parameter) (vs : List Value) (s : Scope) (env : Env) → length vs ≡ length ps → names_in_scope s ≡ names_in_env env →
    names_in_scope (bind_parameters s ps) ≡ names_in_env (bind_all env (map (λ (p : Parameter). p.name) ps) vs)
bodies [] [] s env long same = same
bodies [] (v ∷ vs) s env long same = absurd (omega (arith, long))
bodies (p ∷ ps) [] s env long same = absurd (omega (arith, long))
bodies (p ∷ ps) (v ∷ vs) s env long same = bodies ps vs (parameter p ∷ s) ((p.name, v) ∷ env) (omega (arith, long)) (ap (λ ns. p.name ∷ ns) same)

pub bindings_are_meant : BindingsAreMeant
bindings_are_meant = record {
  levels = levels;
  meaning = λ rename call other calls s env term same. walks rename call other calls s env term same;
  bodies = λ g vs long. bodies g.params vs [] [] long refl;
}

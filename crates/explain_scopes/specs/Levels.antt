-- Programs up to the names of their variables.
use Rattle.std.specs.Prelude.{◌≡◌, ℕ, nat_eq, List, [], ◌∷◌, map, cond, Option, Some, None, length}
use Rattle.std.specs.Str.{bytes_eq}
use Rattle.raml_syntax.specs.Tree as t
use Rattle.raml_syntax.specs.Tree.{Text, Bound, Function}
use Rattle.raml_syntax.specs.Value.{Value}
use Rattle.raml_syntax.specs.Eval.{Env, Calls, bind_all, names_of, walk}
use Rattle.explain_scopes.specs.Scopes.{Scope, bound_to, bind_parameters}

-- the level of the newest variable of this name: how many are older
abbrev pub level_of : Text → Scope → Option ℕ
level_of x [] = None
level_of x (b ∷ s) = cond (bytes_eq x b.name) (Some (length s)) (level_of x s)

-- where the variable of this level is bound
abbrev pub at_level : Scope → Option ℕ → Option ℕ
at_level s None = None
at_level [] (Some k) = None
at_level (b ∷ s) (Some k) = cond (nat_eq k (length s)) (Some b.at) (at_level s (Some k))

-- levels as names; a variable that is not bound has an empty one
abbrev pub level_name : Option ℕ → Text
level_name None = []
level_name (Some k) = k ∷ []

-- one more variable, by its level and without its place
abbrev pub by_level : Scope → Bound
by_level s = record { at = 0; name = length s ∷ [] }

-- An expression below these variables, with each variable named by its level, functions named anew, and without places: expressions
-- that differ in names and places alone are one.
module _ (rename : Text → Text) where
  abbrev mutual
    pub leveled : Scope → t.Term → t.Term
    leveled s (t.Number p n) = t.Number 0 n
    leveled s (t.Truth p b) = t.Truth 0 b
    leveled s (t.Nil p) = t.Nil 0
    leveled s (t.Leaf p) = t.Leaf 0
    leveled s (t.Nothing p) = t.Nothing 0
    leveled s (t.Var p x) = t.Var 0 (level_name (level_of x s))
    leveled s (t.Arith p op a b) = t.Arith 0 op (leveled s a) (leveled s b)
    leveled s (t.Compare p op a b) = t.Compare 0 op (leveled s a) (leveled s b)
    leveled s (t.Not p a) = t.Not 0 (leveled s a)
    leveled s (t.Pair p a b) = t.Pair 0 (leveled s a) (leveled s b)
    leveled s (t.Cons p a b) = t.Cons 0 (leveled s a) (leveled s b)
    leveled s (t.Node p a b c) = t.Node 0 (leveled s a) (leveled s b) (leveled s c)
    leveled s (t.Just p a) = t.Just 0 (leveled s a)
    leveled s (t.Call p f args) = t.Call 0 (rename f) (leveled_all s args)
    leveled s (t.Let p x a b) = t.Let 0 (by_level s) (leveled s a) (leveled (x ∷ s) b)
    leveled s (t.LetPair p x y a b) = t.LetPair 0 (by_level s) (by_level (x ∷ s)) (leveled s a) (leveled (y ∷ x ∷ s) b)
    leveled s (t.If p c a b) = t.If 0 (leveled s c) (leveled s a) (leveled s b)
    leveled s (t.MatchList p c a x y b) =
        t.MatchList 0 (leveled s c) (leveled s a) (by_level s) (by_level (x ∷ s)) (leveled (y ∷ x ∷ s) b)
    leveled s (t.MatchTree p c a x y z b) =
        t.MatchTree 0 (leveled s c) (leveled s a) (by_level s) (by_level (x ∷ s)) (by_level (y ∷ x ∷ s)) (leveled (z ∷ y ∷ x ∷ s) b)
    leveled s (t.MatchOption p c a x b) = t.MatchOption 0 (leveled s c) (leveled s a) (by_level s) (leveled (x ∷ s) b)
    leveled s (t.Tick p n a) = t.Tick 0 n (leveled s a)
    leveled s (t.Typed p a A) = t.Typed 0 (leveled s a) A

    pub leveled_all : Scope → t.Terms → t.Terms
    leveled_all s t.None = t.None
    leveled_all s (t.More a rest) = t.More (leveled s a) (leveled_all s rest)

-- the values of these variables, by their levels
abbrev pub env_by_level : Scope → Env → Env
env_by_level (b ∷ s) (v ∷ env) = (length s ∷ [], v.1) ∷ env_by_level s env
env_by_level _ _ = []

abbrev pub names_in_scope : Scope → List Text
names_in_scope s = map (λ (b : Bound). b.name) s

abbrev pub names_in_env : Env → List Text
names_in_env env = map (λ (v : Text × Value). v.0) env

-- What a variable means is what the meaning of a program takes.
pub record BindingsAreMeant : Type 0 where
  -- a name is bound to the variable of its level
  pub levels : (x : Text) (s : Scope) → bound_to x s ≡ at_level s (level_of x s)
  -- Where the scope has the names of the environment, in this order, the meaning of an expression stays the same where each variable
  -- is told by its level: of the names that are told so no two are the same in a scope.
  pub meaning : (rename : Text → Text) (call other : Calls) → ((f : Text) (vs : List Value) → call f vs ≡ other (rename f) vs) →
      (s : Scope) (env : Env) (e : t.Term) → names_in_scope s ≡ names_in_env env →
      walk call e env ≡ walk other (leveled rename s e) (env_by_level s env)
  -- and a body has the scope of the environment in which a call runs it
  pub bodies : (g : Function) (vs : List Value) → length vs ≡ length g.params →
      names_in_scope (bind_parameters [] g.params) ≡ names_in_env (bind_all [] (names_of g) vs)

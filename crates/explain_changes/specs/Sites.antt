-- Where the value of a variable may be built again from its parts, and the program in which it is.
use Rattle.std.specs.Prelude.{ℕ, List, [], ◌∷◌, ◌++◌, Bool, false, cond, ◌||◌, nat_eq, map, Option, Some, None}
use Rattle.raml_syntax.specs.Tree as t
use Rattle.raml_syntax.specs.Tree.{Text, Bound, Function, Prog}
use Rattle.explain_changes.specs.Built.{Built, Nil, Leaf, Nothing, expression}
use Rattle.explain_changes.specs.Scope as s
use Rattle.explain_changes.specs.Scope.{Scope, kind, variable, built_at, in_pair, in_empty, in_list, in_tree, in_option, in_function}

-- a use of a variable, in a function, and how its value is built there
pub record Site : Type 0 where
  pub at : ℕ
  pub function : Text
  pub variable : Text
  pub built : Built

-- a use is a site where it is known how the value is built
abbrev pub site : Text → ℕ → Text → Option Built → List Site
site f p x None = []
site f p x (Some b) = record { at = p; function = f; variable = x; built = b } ∷ []

-- a variable that is taken apart is not used there
abbrev pub unless : {A : Type 0} → Option Text → A → A → A
unless None none some = some
unless (Some x) none some = none

module _ (P : Prog) (f : Text) where
  abbrev mutual
    -- the sites of an expression, from left to right
    pub sites : Scope → t.Term → List Site
    sites S (t.Var p x) = site f p x (built_at x S)
    sites S (t.Arith p op a b) = sites S a ++ sites S b
    sites S (t.Compare p op a b) = sites S a ++ sites S b
    sites S (t.Not p a) = sites S a
    sites S (t.Pair p a b) = sites S a ++ sites S b
    sites S (t.Cons p a b) = sites S a ++ sites S b
    sites S (t.Node p a b c) = sites S a ++ (sites S b ++ sites S c)
    sites S (t.Just p a) = sites S a
    sites S (t.Call p g args) = sites_of_all S args
    sites S (t.Let p x a b) = sites S a ++ sites (s.Bound x.name (kind P S a) ∷ S) b
    sites S (t.LetPair p x y c a) = unless (variable c) [] (sites S c) ++ sites (in_pair P S c x.name y.name) a
    sites S (t.If p c a b) = sites S c ++ (sites S a ++ sites S b)
    sites S (t.MatchList p c a x y b) =
        unless (variable c) [] (sites S c) ++ (sites (in_empty S c Nil) a ++ sites (in_list P S c x.name y.name) b)
    sites S (t.MatchTree p c a x y z b) =
        unless (variable c) [] (sites S c) ++ (sites (in_empty S c Leaf) a ++ sites (in_tree P S c x.name y.name z.name) b)
    sites S (t.MatchOption p c a x b) =
        unless (variable c) [] (sites S c) ++ (sites (in_empty S c Nothing) a ++ sites (in_option P S c x.name) b)
    sites S (t.Tick p k a) = sites S a
    sites S (t.Typed p a A) = sites S a
    sites S _ = []

    pub sites_of_all : Scope → t.Terms → List Site
    sites_of_all S t.None = []
    sites_of_all S (t.More a rest) = sites S a ++ sites_of_all S rest

abbrev pub function_sites : Prog → Function → List Site
function_sites P g = sites P g.name (in_function [] g.params) g.body

abbrev pub sites_of_each : Prog → List Function → List Site
sites_of_each P [] = []
sites_of_each P (g ∷ gs) = function_sites P g ++ sites_of_each P gs

abbrev pub program_sites : Prog → List Site
program_sites P = sites_of_each P P

-- the bytes of sites are those of the uses that are changed
abbrev pub is_chosen : List ℕ → ℕ → Bool
is_chosen [] p = false
is_chosen (q ∷ qs) p = nat_eq p q || is_chosen qs p

abbrev pub rebuilt : ℕ → Text → Option Built → t.Term
rebuilt p x None = t.Var p x
rebuilt p x (Some b) = expression p b

module _ (P : Prog) (chosen : List ℕ) where
  abbrev mutual
    -- the expression in which the chosen values are built again
    pub changed : Scope → t.Term → t.Term
    changed S (t.Number p n) = t.Number p n
    changed S (t.Truth p b) = t.Truth p b
    changed S (t.Nil p) = t.Nil p
    changed S (t.Leaf p) = t.Leaf p
    changed S (t.Nothing p) = t.Nothing p
    changed S (t.Var p x) = cond (is_chosen chosen p) (rebuilt p x (built_at x S)) (t.Var p x)
    changed S (t.Arith p op a b) = t.Arith p op (changed S a) (changed S b)
    changed S (t.Compare p op a b) = t.Compare p op (changed S a) (changed S b)
    changed S (t.Not p a) = t.Not p (changed S a)
    changed S (t.Pair p a b) = t.Pair p (changed S a) (changed S b)
    changed S (t.Cons p a b) = t.Cons p (changed S a) (changed S b)
    changed S (t.Node p a b c) = t.Node p (changed S a) (changed S b) (changed S c)
    changed S (t.Just p a) = t.Just p (changed S a)
    changed S (t.Call p g args) = t.Call p g (changed_all S args)
    changed S (t.Let p x a b) = t.Let p x (changed S a) (changed (s.Bound x.name (kind P S a) ∷ S) b)
    changed S (t.LetPair p x y c a) = t.LetPair p x y (unless (variable c) c (changed S c)) (changed (in_pair P S c x.name y.name) a)
    changed S (t.If p c a b) = t.If p (changed S c) (changed S a) (changed S b)
    changed S (t.MatchList p c a x y b) =
        t.MatchList p (unless (variable c) c (changed S c)) (changed (in_empty S c Nil) a) x y
        (changed (in_list P S c x.name y.name) b)
    changed S (t.MatchTree p c a x y z b) =
        t.MatchTree p (unless (variable c) c (changed S c)) (changed (in_empty S c Leaf) a) x y z
        (changed (in_tree P S c x.name y.name z.name) b)
    changed S (t.MatchOption p c a x b) =
        t.MatchOption p (unless (variable c) c (changed S c)) (changed (in_empty S c Nothing) a) x
        (changed (in_option P S c x.name) b)
    changed S (t.Tick p k a) = t.Tick p k (changed S a)
    changed S (t.Typed p a A) = t.Typed p (changed S a) A

    pub changed_all : Scope → t.Terms → t.Terms
    changed_all S t.None = t.None
    changed_all S (t.More a rest) = t.More (changed S a) (changed_all S rest)

abbrev pub changed_function : Prog → List ℕ → Function → Function
changed_function P chosen g = record {
  at = g.at;
  name = g.name;
  params = g.params;
  result = g.result;
  body = changed P chosen (in_function [] g.params) g.body;
}

-- the program in which the values at these bytes are built again, where they are bytes of sites
abbrev pub changed_program : Prog → List ℕ → Prog
changed_program P chosen = map (changed_function P chosen) P

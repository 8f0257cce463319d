-- Which binding each name of a program means.
use Rattle.std.specs.Prelude.{ℕ, List, [], ◌∷◌, ◌++◌, map, cond, Option, Some, None}
use Rattle.std.specs.Str.{bytes_eq}
use Rattle.raml_syntax.specs.Tree as t
use Rattle.raml_syntax.specs.Tree.{Text, Bound, Parameter, Function, Prog}
pub use Rattle.explain_scopes.specs.declared.occurrence.Kind.{Kind}
use Rattle.explain_scopes.specs.declared.occurrence.Kind.TheVariants as k

-- a name that stands in the text, with the place where the binding stands that it means: its own, where it binds
pub record Occurrence : Type 0 where
  pub at : ℕ
  pub name : Text
  pub kind : Kind
  pub binding : Option ℕ

-- variables and where they are bound, the newest first
abbrev pub Scope : Type 0
Scope = List Bound

-- where the newest variable of this name is bound; of functions, where the first one of this name is
abbrev pub bound_to : Text → List Bound → Option ℕ
bound_to x [] = None
bound_to x (b ∷ scope) = cond (bytes_eq x b.name) (Some b.at) (bound_to x scope)

-- a name that binds
abbrev pub binds : Kind → Bound → Occurrence
binds kind b = record { at = b.at; name = b.name; kind = kind; binding = Some b.at }

abbrev pub variable : Bound → Occurrence
variable b = binds k.Variable b

-- a name at this place that means what it is bound to
abbrev pub means : Kind → List Bound → ℕ → Text → Occurrence
means kind scope p x = record { at = p; name = x; kind = kind; binding = bound_to x scope }

-- the names in an expression, in the order of the text, below these functions and variables
module _ (functions : List Bound) where
  abbrev mutual
    pub names_in : Scope → t.Term → List Occurrence
    names_in s (t.Var p x) = means k.Variable s p x ∷ []
    names_in s (t.Arith p op a b) = names_in s a ++ names_in s b
    names_in s (t.Compare p op a b) = names_in s a ++ names_in s b
    names_in s (t.Not p a) = names_in s a
    names_in s (t.Pair p a b) = names_in s a ++ names_in s b
    names_in s (t.Cons p a b) = names_in s a ++ names_in s b
    names_in s (t.Node p a b c) = names_in s a ++ (names_in s b ++ names_in s c)
    names_in s (t.Just p a) = names_in s a
    names_in s (t.Call p f args) = means k.Function functions p f ∷ names_in_all s args
    names_in s (t.Let p x a b) = variable x ∷ (names_in s a ++ names_in (x ∷ s) b)
    names_in s (t.LetPair p x y a b) = variable x ∷ variable y ∷ (names_in s a ++ names_in (y ∷ x ∷ s) b)
    names_in s (t.If p c a b) = names_in s c ++ (names_in s a ++ names_in s b)
    names_in s (t.MatchList p c a x y b) = names_in s c ++ (names_in s a ++ (variable x ∷ variable y ∷ names_in (y ∷ x ∷ s) b))
    names_in s (t.MatchTree p c a x y z b) =
        names_in s c ++ (names_in s a ++ (variable x ∷ variable y ∷ variable z ∷ names_in (z ∷ y ∷ x ∷ s) b))
    names_in s (t.MatchOption p c a x b) = names_in s c ++ (names_in s a ++ (variable x ∷ names_in (x ∷ s) b))
    names_in s (t.Tick p n a) = names_in s a
    names_in s (t.Typed p a A) = names_in s a
    names_in s _ = []

    pub names_in_all : Scope → t.Terms → List Occurrence
    names_in_all s t.None = []
    names_in_all s (t.More a rest) = names_in s a ++ names_in_all s rest

abbrev pub parameter : Parameter → Bound
parameter p = record { at = p.at; name = p.name }

-- the last parameter is the newest
abbrev pub bind_parameters : Scope → List Parameter → Scope
bind_parameters s [] = s
bind_parameters s (p ∷ ps) = bind_parameters (parameter p ∷ s) ps

-- those of a function behind its own name
abbrev pub names_of : List Bound → Function → List Occurrence
names_of functions g =
    map (λ (p : Parameter). variable (parameter p)) g.params ++ names_in functions (bind_parameters [] g.params) g.body

-- those of some functions, whose own names stand at these places
abbrev pub names_of_all : List Bound → List Bound → List Function → List Occurrence
names_of_all functions (b ∷ bs) (g ∷ gs) = binds k.Function b ∷ (names_of functions g ++ names_of_all functions bs gs)
names_of_all functions _ _ = []

-- functions whose own names stand at these places
abbrev pub named_at : List ℕ → List Function → List Bound
named_at (p ∷ ps) (g ∷ gs) = record { at = p; name = g.name } ∷ named_at ps gs
named_at _ _ = []

-- all names of a program; each function may be called anywhere
abbrev pub occurrences : List ℕ → Prog → List Occurrence
occurrences places P = names_of_all (named_at places P) (named_at places P) P

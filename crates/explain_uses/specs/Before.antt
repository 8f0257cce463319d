-- What happens before a place of an expression is reached, and where a variable is used first.
use Rattle.std.specs.Prelude.{ℕ, List, [], ◌∷◌, cond, Option, Some, None}
use Rattle.std.specs.Option.{option_or}
use Rattle.std.specs.Str.{bytes_eq}
use Rattle.raml_syntax.specs.Tree as t
use Rattle.raml_syntax.specs.Tree.{Text}

pub data Step : Type 0 where
  -- a name is bound
  Named : Text → Step
  -- an expression is evaluated
  Passed : t.Term → Step

-- the newest first
abbrev pub Before : Type 0
Before = List Step

-- of what is found of a variable, what is left where this name is bound
abbrev pub unless_named : Text → Text → Option ℕ → Option ℕ
unless_named x y found = cond (bytes_eq x y) None found

module _ (x : Text) where
  abbrev mutual
    -- the first use of a variable in an expression, on whatever path
    pub first_use : t.Term → Option ℕ
    first_use (t.Var p y) = cond (bytes_eq x y) (Some p) None
    first_use (t.Arith p op a b) = option_or (first_use a) (first_use b)
    first_use (t.Compare p op a b) = option_or (first_use a) (first_use b)
    first_use (t.Not p a) = first_use a
    first_use (t.Pair p a b) = option_or (first_use a) (first_use b)
    first_use (t.Cons p a b) = option_or (first_use a) (first_use b)
    first_use (t.Node p a b c) = option_or (first_use a) (option_or (first_use b) (first_use c))
    first_use (t.Just p a) = first_use a
    first_use (t.Call p g args) = first_use_of_all args
    first_use (t.Let p y a b) = option_or (first_use a) (unless_named x y.name (first_use b))
    first_use (t.LetPair p y z a b) = option_or (first_use a) (unless_named x y.name (unless_named x z.name (first_use b)))
    first_use (t.If p c a b) = option_or (first_use c) (option_or (first_use a) (first_use b))
    first_use (t.MatchList p c a y z b) =
        option_or (first_use c) (option_or (first_use a) (unless_named x y.name (unless_named x z.name (first_use b))))
    first_use (t.MatchTree p c a y z u b) =
        option_or (first_use c) (option_or (first_use a)
        (unless_named x y.name (unless_named x z.name (unless_named x u.name (first_use b)))))
    first_use (t.MatchOption p c a y b) = option_or (first_use c) (option_or (first_use a) (unless_named x y.name (first_use b)))
    first_use (t.Tick p k a) = first_use a
    first_use (t.Typed p a A) = first_use a
    first_use _ = None

    pub first_use_of_all : t.Terms → Option ℕ
    first_use_of_all t.None = None
    first_use_of_all (t.More a rest) = option_or (first_use a) (first_use_of_all rest)

-- the first use of a variable before a place is reached
abbrev pub first_before : Text → Before → Option ℕ
first_before x [] = None
first_before x (Named y ∷ B) = unless_named x y (first_before x B)
first_before x (Passed e ∷ B) = option_or (first_before x B) (first_use x e)

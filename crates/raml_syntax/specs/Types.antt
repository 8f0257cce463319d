-- The types of expressions and of programs, by two relations: what an expression is found to be, and what it is checked against.
use Rattle.std.specs.Prelude.{◌≡◌, List, [], ◌∷◌, map, cond, Option, Some, None}
use Rattle.std.specs.List.{All, Contains}
use Rattle.std.specs.Str.{bytes_eq}
use Rattle.raml_syntax.specs.Tree as t
use Rattle.raml_syntax.specs.Tree.{Text, Type', Integer, Boolean, PairOf, ListOf, TreeOf, OptionOf, Bound, Parameter, Function, Prog}
use Rattle.raml_syntax.specs.Eval.{find, names_of}

-- variables and their types, the newest first
abbrev pub Context : Type 0
Context = List (Text × Type')

-- the type of the newest variable of this name
abbrev pub type_at : Text → Context → Option Type'
type_at x [] = None
type_at x (b ∷ G) = cond (bytes_eq x b.0) (Some b.1) (type_at x G)

abbrev pub bind_types : Context → List Parameter → Context
bind_types G [] = G
bind_types G (p ∷ ps) = bind_types ((p.name, p.type) ∷ G) ps

-- the types that a function's arguments have
abbrev pub types_of : Function → List Type'
types_of g = map (λ (p : Parameter). p.type) g.params

-- none of the names is one of those behind it
abbrev pub Differ : List Text → Type 0
Differ [] = Unit {0}
Differ (x ∷ xs) = (Contains xs x → ⊥) × Differ xs

abbrev pub IsListType : Type' → Type 0
IsListType T = (A : Type') × (T ≡ ListOf A)

abbrev pub IsTreeType : Type' → Type 0
IsTreeType T = (A : Type') × (T ≡ TreeOf A)

abbrev pub IsOptionType : Type' → Type 0
IsOptionType T = (A : Type') × (T ≡ OptionOf A)

pub data Way : Type 0 where
  Finding : Way
  Checking : Way

-- `nil`, `leaf` and `none` have every type of their kind, so that none is found for them
abbrev pub OnlyChecked : Way → Type 0 → Type 0
OnlyChecked Finding F = ⊥
OnlyChecked Checking F = F

-- Of a program: where a form is checked, its last parts are; where it is found, the first of them is found and the others are
-- checked against what was found.
module _ (P : Prog) where
  abbrev mutual
    -- in this way, and in this context, the expression has the type
    pub HasType : Way → Context → t.Term → Type' → Type 0
    HasType way G (t.Number p n) T = T ≡ Integer
    HasType way G (t.Truth p b) T = T ≡ Boolean
    HasType way G (t.Nil p) T = OnlyChecked way (IsListType T)
    HasType way G (t.Leaf p) T = OnlyChecked way (IsTreeType T)
    HasType way G (t.Nothing p) T = OnlyChecked way (IsOptionType T)
    HasType way G (t.Var p x) T = type_at x G ≡ Some T
    HasType way G (t.Arith p op a b) T = (T ≡ Integer) × HasType Checking G a Integer × HasType Checking G b Integer
    HasType way G (t.Compare p op a b) T = (T ≡ Boolean) × HasType Checking G a Integer × HasType Checking G b Integer
    HasType way G (t.Not p a) T = (T ≡ Boolean) × HasType Checking G a Boolean
    HasType way G (t.Pair p a b) T = (A : Type') × (B : Type') × (T ≡ PairOf A B) × HasType way G a A × HasType way G b B
    HasType way G (t.Cons p a b) T = (A : Type') × (T ≡ ListOf A) × HasType way G a A × HasType Checking G b (ListOf A)
    HasType way G (t.Node p a b c) T =
        (A : Type') × (T ≡ TreeOf A) × HasType way G a A × HasType Checking G b (TreeOf A) × HasType Checking G c (TreeOf A)
    HasType way G (t.Just p a) T = (A : Type') × (T ≡ OptionOf A) × HasType way G a A
    HasType way G (t.Call p f args) T = (g : Function) × (find f P ≡ Some g) × (T ≡ g.result) × CheckEach G args (types_of g)
    HasType way G (t.Let p x a b) T = (A : Type') × HasType Finding G a A × HasType way ((x.name, A) ∷ G) b T
    HasType way G (t.LetPair p x y a b) T =
        (A : Type') × (B : Type') × Differ (x.name ∷ y.name ∷ []) × HasType Finding G a (PairOf A B)
        × HasType way ((y.name, B) ∷ (x.name, A) ∷ G) b T
    HasType way G (t.If p c a b) T = HasType Checking G c Boolean × HasType way G a T × HasType Checking G b T
    HasType way G (t.MatchList p c a x y b) T =
        (A : Type') × Differ (x.name ∷ y.name ∷ []) × HasType Finding G c (ListOf A) × HasType way G a T
        × HasType Checking ((y.name, ListOf A) ∷ (x.name, A) ∷ G) b T
    HasType way G (t.MatchTree p c a x y z b) T =
        (A : Type') × Differ (x.name ∷ y.name ∷ z.name ∷ []) × HasType Finding G c (TreeOf A) × HasType way G a T
        × HasType Checking ((z.name, TreeOf A) ∷ (y.name, TreeOf A) ∷ (x.name, A) ∷ G) b T
    HasType way G (t.MatchOption p c a x b) T =
        (A : Type') × HasType Finding G c (OptionOf A) × HasType way G a T × HasType Checking ((x.name, A) ∷ G) b T
    HasType way G (t.Tick p k a) T = HasType way G a T
    HasType way G (t.Typed p a A) T = (T ≡ A) × HasType Checking G a A

    -- there are as many expressions as types, and each is checked against its type
    pub CheckEach : Context → t.Terms → List Type' → Type 0
    CheckEach G t.None [] = Unit {0}
    CheckEach G (t.More a rest) (A ∷ As) = HasType Checking G a A × CheckEach G rest As
    CheckEach G _ _ = ⊥

-- this type is found for the expression
abbrev pub Finds : Prog → Context → t.Term → Type' → Type 0
Finds P = HasType P Finding

-- the expression is checked against this type
abbrev pub Checks : Prog → Context → t.Term → Type' → Type 0
Checks P = HasType P Checking

-- no function and no parameter of a function has a name twice, and each body is checked against its result type
pub record Typed (P : Prog) : Type 0 where
  pub functions : Differ (map (λ (g : Function). g.name) P)
  pub parameters : All (λ g. Differ (names_of g)) P
  pub bodies : All (λ (g : Function). Checks P (bind_types [] g.params) g.body g.result) P

-- Values, which values a type has, and how large they are.
use Rattle.std.specs.Prelude.{ℕ, ℤ, List, [], ◌∷◌, Bool, ◌+◌, FitsSigned}
use Rattle.std.specs.Int.{w64}
use Rattle.raml_syntax.specs.Tree.{Type', Integer, Boolean, PairOf, ListOf, TreeOf, OptionOf}

-- A list is its head before its tail. The empty list, the leaf and `none` are one value, which every list, tree and option type has.
pub data Value : Type 0 where
  Number : ℤ → Value
  Truth : Bool → Value
  Both : Value → Value → Value
  Empty : Value
  Cons : Value → Value → Value
  Node : Value → Value → Value → Value
  Just : Value → Value

-- the value has the type
abbrev pub Has : Value → Type' → Type 0
Has (Number n) Integer = FitsSigned w64 n
Has (Truth b) Boolean = Unit {0}
Has (Both v w) (PairOf A B) = Has v A × Has w B
Has Empty (ListOf A) = Unit {0}
Has Empty (TreeOf A) = Unit {0}
Has Empty (OptionOf A) = Unit {0}
Has (Cons v w) (ListOf A) = Has v A × Has w (ListOf A)
Has (Node v l r) (TreeOf A) = Has v A × Has l (TreeOf A) × Has r (TreeOf A)
Has (Just v) (OptionOf A) = Has v A
Has _ _ = ⊥

-- the values have these types, one by one
abbrev pub HaveTypes : List Value → List Type' → Type 0
HaveTypes [] [] = Unit {0}
HaveTypes (v ∷ vs) (A ∷ As) = Has v A × HaveTypes vs As
HaveTypes _ _ = ⊥

-- the number of pairs, list elements, nodes and `some`
abbrev pub size : Value → ℕ
size (Both v w) = 1 + size v + size w
size (Cons v w) = 1 + size v + size w
size (Node v l r) = 1 + size v + size l + size r
size (Just v) = 1 + size v
size _ = 0

-- The sizes of values.
use Rattle.std.specs.Prelude.{◌≡◌, ◌≤◌, ℕ, List, [], ◌∷◌, length, All}
use Rattle.raml_syntax.specs.Value.{Value, Number, Truth, Both, Empty, Cons, Node, Just}
use Rattle.base_poly.specs.Base.{elements}

-- A number or a truth value has none. A pair has those of its parts, an option those of what it holds, and a list or a tree has how many
-- elements there are and the sizes of each of them.
pub data Sizes : Type 0 where
  NoSize : Sizes
  Parts : Sizes → Sizes → Sizes
  Content : Sizes → Sizes
  Elements : ℕ → Sizes → Sizes

-- it is a list or a tree
abbrev pub HasElements : Value → Type 0
HasElements Empty = Unit {0}
HasElements (Cons h t) = Unit {0}
HasElements (Node a l r) = Unit {0}
HasElements _ = ⊥

-- The value has at most these sizes; an option may hold nothing.
abbrev pub IsWithin : Sizes → Value → Type 0
IsWithin NoSize (Number n) = Unit {0}
IsWithin NoSize (Truth b) = Unit {0}
IsWithin (Parts s t) (Both v w) = IsWithin s v × IsWithin t w
IsWithin (Content s) Empty = Unit {0}
IsWithin (Content s) (Just v) = IsWithin s v
IsWithin (Elements n s) v = HasElements v × (length (elements v) ≤ n) × All (IsWithin s) (elements v)
IsWithin _ _ = ⊥

-- The value has exactly these sizes: each list and each tree has as many elements, and each option holds something.
abbrev pub HasExactly : Sizes → Value → Type 0
HasExactly NoSize (Number n) = Unit {0}
HasExactly NoSize (Truth b) = Unit {0}
HasExactly (Parts s t) (Both v w) = HasExactly s v × HasExactly t w
HasExactly (Content s) (Just v) = HasExactly s v
HasExactly (Elements n s) v = HasElements v × (length (elements v) ≡ n) × All (HasExactly s) (elements v)
HasExactly _ _ = ⊥

-- the values have at most these sizes, one by one
abbrev pub AreWithin : List Sizes → List Value → Type 0
AreWithin [] [] = Unit {0}
AreWithin (s ∷ ss) (v ∷ vs) = IsWithin s v × AreWithin ss vs
AreWithin _ _ = ⊥

-- the values have exactly these sizes, one by one
abbrev pub HaveExactly : List Sizes → List Value → Type 0
HaveExactly [] [] = Unit {0}
HaveExactly (s ∷ ss) (v ∷ vs) = HasExactly s v × HaveExactly ss vs
HaveExactly _ _ = ⊥

-- The sizes are of one form, and the first have at most as many elements as the second everywhere.
abbrev pub IsAtMost : Sizes → Sizes → Type 0
IsAtMost NoSize NoSize = Unit {0}
IsAtMost (Parts s t) (Parts u v) = IsAtMost s u × IsAtMost t v
IsAtMost (Content s) (Content u) = IsAtMost s u
IsAtMost (Elements m s) (Elements n u) = (m ≤ n) × IsAtMost s u
IsAtMost _ _ = ⊥

-- one by one
abbrev pub AreAtMost : List Sizes → List Sizes → Type 0
AreAtMost [] [] = Unit {0}
AreAtMost (s ∷ ss) (u ∷ us) = IsAtMost s u × AreAtMost ss us
AreAtMost _ _ = ⊥

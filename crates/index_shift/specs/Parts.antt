-- The parts of a variable that is taken apart: of its type, of its values and of its indices.
use Rattle.std.specs.Prelude.{List, [], ◌∷◌, ◌++◌, map}
use Rattle.raml_syntax.specs.Tree.{Type', PairOf, ListOf, TreeOf, OptionOf}
use Rattle.raml_syntax.specs.Value.{Value, Both, Cons, Node, Just}
use Rattle.base_poly.specs.Plain.{Plain, Pair, End, NoEntry, OneEntry, many, entries_of}
use Rattle.base_poly.specs.Indices.{zero_of}
use Rattle.base_poly.specs.Laws.{cuts}

-- both parts of a pair, head and tail of a list, of a tree the element, the left tree and the right one, and what an option holds
abbrev pub type_parts : Type' → List Type'
type_parts (PairOf A B) = A ∷ B ∷ []
type_parts (ListOf A) = A ∷ ListOf A ∷ []
type_parts (TreeOf A) = A ∷ TreeOf A ∷ TreeOf A ∷ []
type_parts (OptionOf A) = A ∷ []
type_parts _ = []

abbrev pub value_parts : Value → List Value
value_parts (Both v w) = v ∷ w ∷ []
value_parts (Cons h t) = h ∷ t ∷ []
value_parts (Node a l r) = a ∷ l ∷ r ∷ []
value_parts (Just v) = v ∷ []
value_parts _ = []

-- an index at an element, and indices at the trees of which the left one has the first entries
abbrev pub at_trees : Plain → List Plain → List (List Plain)
at_trees i is = map (λ c. i ∷ many c.0 ∷ many c.1 ∷ []) (cuts is)

-- The first entry stands at the head, or the head counts for nothing and has its zero index.
abbrev pub list_parts : Plain → List Plain → List (List Plain)
list_parts none [] = (none ∷ End ∷ []) ∷ []
list_parts none (i ∷ is) = (i ∷ many is ∷ []) ∷ (none ∷ many (i ∷ is) ∷ []) ∷ []

-- The same at the element of a tree.
abbrev pub tree_parts : Plain → List Plain → List (List Plain)
tree_parts none [] = at_trees none []
tree_parts none (i ∷ is) = at_trees i is ++ at_trees none (i ∷ is)

abbrev pub pair_parts : Plain → List (List Plain)
pair_parts (Pair i j) = (i ∷ j ∷ []) ∷ []
pair_parts _ = []

-- The entry stands at what the option holds, or that counts for nothing and has its zero index.
abbrev pub option_parts : Plain → Plain → List (List Plain)
option_parts none NoEntry = (none ∷ []) ∷ []
option_parts none (OneEntry i) = (i ∷ []) ∷ []
option_parts none _ = []

-- the tuples of indices of the parts that stand for an index of the type
abbrev pub index_parts : Type' → Plain → List (List Plain)
index_parts (PairOf A B) i = pair_parts i
index_parts (ListOf A) i = list_parts (zero_of A) (entries_of i)
index_parts (TreeOf A) i = tree_parts (zero_of A) (entries_of i)
index_parts (OptionOf A) i = option_parts (zero_of A) i
index_parts _ i = []

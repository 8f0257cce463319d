-- Base polynomials.
use Rattle.std.specs.Prelude.{ℕ, zero, suc, ◌+◌, ◌*◌, List, [], ◌∷◌, ◌++◌, map}
use Rattle.raml_syntax.specs.Value.{Value, Both, Cons, Node, Just}
use Rattle.base_poly.specs.Plain.{Plain, Unit', Pair, End, Then, NoEntry, OneEntry, entry_count}

-- the sum of a number over a list
abbrev pub total : {X : Type 0} → (X → ℕ) → List X → ℕ
total f [] = 0
total f (x ∷ xs) = f x + total f xs

-- the elements of a list, or of a tree in preorder
abbrev pub elements : Value → List Value
elements (Cons h t) = h ∷ elements t
elements (Node a l r) = a ∷ (elements l ++ elements r)
elements _ = []

-- what stands at k increasing positions, for every choice of the positions
abbrev pub choices : {X : Type 0} → ℕ → List X → List (List X)
choices zero xs = [] ∷ []
choices (suc k) [] = []
choices (suc k) (x ∷ xs) = map (λ c. x ∷ c) (choices k xs) ++ choices (suc k) xs

-- the product of a number of the first with one of the others
abbrev pub first_times_rest : {X : Type 0} → (X → ℕ) → (List X → ℕ) → List X → ℕ
first_times_rest f g [] = 0
first_times_rest f g (x ∷ xs) = f x * g xs

-- the product over the parts of a pair
abbrev pub on_parts : (Value → ℕ) → (Value → ℕ) → Value → ℕ
on_parts f g (Both v w) = f v * g w
on_parts f g _ = 0

-- what an option holds
abbrev pub on_content : (Value → ℕ) → Value → ℕ
on_content f (Just v) = f v
on_content f _ = 0

-- A value whose type the index does not have meets a default; no value of the type does.
abbrev mutual
  -- The unit counts 1, a pair multiplies its parts. A list index adds up, over all choices of as many increasing positions as it has
  -- entries, the products of its entries at the elements there. An option's entry counts at what the option holds, and
  -- 0 where it holds nothing.
  pub base : Plain → Value → ℕ
  base Unit' v = 1
  base (Pair i j) v = on_parts (base i) (base j) v
  base End v = 1
  base (Then i r) v = total (first_times_rest (base i) (along r)) (choices (suc (entry_count r)) (elements v))
  base NoEntry v = 1
  base (OneEntry i) v = on_content (base i) v

  -- the product of a list index's entries at as many elements
  pub along : Plain → List Value → ℕ
  along (Then i r) vs = first_times_rest (base i) (along r) vs
  along _ vs = 1

-- a list index over the elements: what `base` is at the value that has them
abbrev pub over : Plain → List Value → ℕ
over x vs = total (along x) (choices (entry_count x) vs)

-- the product over the components of a tuple
abbrev pub bases : List Plain → List Value → ℕ
bases [] vs = 1
bases (i ∷ is) (v ∷ vs) = base i v * bases is vs
bases (i ∷ is) [] = 0

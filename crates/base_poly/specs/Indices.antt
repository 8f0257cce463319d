-- The indices of types, and of contexts: lists of types.
use Rattle.std.specs.Prelude.{◌≡◌, ℕ, zero, suc, ◌+◌, ◌-◌, ◌≤◌, ◌↔◌, nat_eq, List, [], ◌∷◌, ◌++◌, map, flat_map, filter, Contains}
use Rattle.std.specs.declared.cmp.Ordering.{Ordering}
use Rattle.std.specs.declared.cmp.Ordering.TheVariants.{Less, Equal, Greater}
use Rattle.std.specs.Ordering.{ordering_then, nat_cmp}
use Rattle.raml_syntax.specs.Tree.{Type', Integer, Boolean, PairOf, ListOf, TreeOf, OptionOf}
use Rattle.base_poly.specs.Plain.{Plain, Unit', Pair, End, Then, NoEntry, OneEntry, many, deg, degrees, capped, order}

-- it is an index of the type
abbrev pub IsIndex : Plain → Type' → Type 0
IsIndex Unit' Integer = Unit {0}
IsIndex Unit' Boolean = Unit {0}
IsIndex (Pair i j) (PairOf A B) = IsIndex i A × IsIndex j B
IsIndex End (ListOf A) = Unit {0}
IsIndex End (TreeOf A) = Unit {0}
IsIndex (Then i r) (ListOf A) = IsIndex i A × IsIndex r (ListOf A)
IsIndex (Then i r) (TreeOf A) = IsIndex i A × IsIndex r (TreeOf A)
IsIndex NoEntry (OptionOf A) = Unit {0}
IsIndex (OneEntry i) (OptionOf A) = IsIndex i A
IsIndex _ _ = ⊥

-- they are a tuple of the context: one index of each of the types
abbrev pub AreIndices : List Plain → List Type' → Type 0
AreIndices [] [] = Unit {0}
AreIndices (i ∷ is) (A ∷ As) = IsIndex i A × AreIndices is As
AreIndices _ _ = ⊥

-- a type's only index of degree 0
abbrev pub zero_of : Type' → Plain
zero_of Integer = Unit'
zero_of Boolean = Unit'
zero_of (PairOf A B) = Pair (zero_of A) (zero_of B)
zero_of (ListOf A) = End
zero_of (TreeOf A) = End
zero_of (OptionOf A) = NoEntry

-- component by component
abbrev pub each_in_turn : List Plain → List Plain → Ordering
each_in_turn [] [] = Equal
each_in_turn [] (j ∷ js) = Less
each_in_turn (i ∷ is) [] = Greater
each_in_turn (i ∷ is) (j ∷ js) = ordering_then (order i j) (each_in_turn is js)

-- tuples are ordered by degree, and then component by component
abbrev pub tuple_order : List Plain → List Plain → Ordering
tuple_order is js = ordering_then (nat_cmp (degrees is) (degrees js)) (each_in_turn is js)

-- The order of tuples in the code: degrees past 32 bits count as one. The components are compared as the entries of a list index.
abbrev pub capped_order : List Plain → List Plain → Ordering
capped_order is js = ordering_then (nat_cmp (capped (degrees is)) (capped (degrees js))) (order (many is) (many js))

-- each is less than all behind it
module _ {X : Type 0} (by : X → X → Ordering) where
  abbrev pub IsBefore : X → List X → Type 0
  IsBefore x [] = Unit {0}
  IsBefore x (y ∷ ys) = (by x y ≡ Less) × IsBefore x ys

  abbrev pub Ascends : List X → Type 0
  Ascends [] = Unit {0}
  Ascends (x ∷ xs) = IsBefore x xs × Ascends xs

-- the list has the context's tuples of at most this degree and no others, each once and in order
pub record ListsTuples (As : List Type') (d : ℕ) (ts : List (List Plain)) : Type 0 where
  pub ascends : Ascends tuple_order ts
  pub exactly : (t : List Plain) → Contains ts t ↔ (AreIndices t As × (degrees t ≤ d))

-- each of the firsts before each of those that may follow it at degree d
abbrev pub tuples_led : (ℕ → List (List Plain)) → ℕ → List Plain → List (List Plain)
tuples_led rests d firsts = flat_map (λ i. map (λ r. i ∷ r) (rests (d - deg i))) firsts

-- the pairs of each of the firsts with each of the seconds that may follow it at degree d
abbrev pub pairs_led : (ℕ → List Plain) → ℕ → List Plain → List Plain
pairs_led seconds d firsts = flat_map (λ i. map (λ j. Pair i j) (seconds (d - deg i))) firsts

-- the lists of degree at most d with at most n entries, whose entries are those of `items`
abbrev pub lists : (ℕ → List Plain) → ℕ → ℕ → List (List Plain)
lists items zero d = [] ∷ []
lists items (suc n) zero = [] ∷ []
lists items (suc n) (suc d) = [] ∷ tuples_led (lists items n) d (items d)

-- the option indices of degree at most d, whose entries are those of `items`
abbrev pub options : (ℕ → List Plain) → ℕ → List Plain
options items zero = NoEntry ∷ []
options items (suc d) = NoEntry ∷ map OneEntry (items d)

-- the indices of a type of at most this degree, in order
abbrev pub indices_up_to : Type' → ℕ → List Plain
indices_up_to Integer d = Unit' ∷ []
indices_up_to Boolean d = Unit' ∷ []
indices_up_to (PairOf A B) d = pairs_led (indices_up_to B) d (indices_up_to A d)
indices_up_to (ListOf A) d = map many (lists (indices_up_to A) d d)
indices_up_to (TreeOf A) d = map many (lists (indices_up_to A) d d)
indices_up_to (OptionOf A) d = options (indices_up_to A) d

-- the tuples of a context of at most this degree, component by component
abbrev pub tuples_up_to : List Type' → ℕ → List (List Plain)
tuples_up_to [] d = [] ∷ []
tuples_up_to (A ∷ As) d = tuples_led (tuples_up_to As) d (indices_up_to A d)

-- those of each degree from `from` on, for n degrees
abbrev pub by_degree : ℕ → ℕ → List (List Plain) → List (List Plain)
by_degree zero from ts = []
by_degree (suc n) from ts = filter (λ t. nat_eq (degrees t) from) ts ++ by_degree n (1 + from) ts

-- the tuples of a context of at most this degree, in order: a position is a place in this list
abbrev pub index_list : List Type' → ℕ → List (List Plain)
index_list As d = by_degree (1 + d) 0 (tuples_up_to As d)

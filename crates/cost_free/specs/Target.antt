-- Targets of a result type: what cost-free signatures are to leave of a result.
use Rattle.std.specs.Prelude.{ℕ, zero, suc, ◌+◌, nat_eq, nat_le, nat_lt, Bool, true, false, cond, ◌&&◌, List, [], ◌∷◌, ◌++◌, map, flat_map}
use Rattle.std.specs.Prelude.{filter, take, length, Option, Some, None}
use Rattle.std.specs.declared.cmp.Ordering.{Ordering}
use Rattle.std.specs.Ordering.{ordering_then, nat_cmp, is_lt}
use Rattle.std.specs.Cmp.Lexicographic.{slice_cmp}
use Rattle.raml_syntax.specs.Tree.{Type', Integer, Boolean, PairOf, ListOf, TreeOf, OptionOf}
use Rattle.raml_syntax.specs.SameType.{same_type}
use Rattle.base_poly.specs.Plain.{Plain, Pair, many, entries_of, deg, degrees, order}
use Rattle.base_poly.specs.Laws.{cuts}
use Rattle.base_poly.specs.Indices.{zero_of, index_list}

-- A target has the number 1 at each of these tuples, all of one degree. Each tuple has one index, that of the result.
abbrev pub Target : Type 0
Target = List (List Plain)

abbrev pub degree_of : Target → ℕ
degree_of [] = 0
degree_of (t ∷ ts) = degrees t

-- Unit targets: one for each tuple of the result of degree at most d, in their order.
abbrev pub unit_targets : Type' → ℕ → List Target
unit_targets A d = map (λ t. t ∷ []) (index_list (A ∷ []) d)

-- Joined targets. The type is taken apart over pairs into components, from left to right.
abbrev pub components : Type' → List Type'
components (PairOf A B) = components A ++ components B
components A = A ∷ []

-- a component that is a list or a tree: its place among all components, and the type of its elements
pub record Holder : Type 0 where
  pub place : ℕ
  pub element : Type'

abbrev pub holder_at : ℕ → Type' → List Holder
holder_at k (ListOf A) = record { place = k; element = A } ∷ []
holder_at k (TreeOf A) = record { place = k; element = A } ∷ []
holder_at k _ = []

-- those among the components, the first of which has this place
abbrev pub holders : ℕ → List Type' → List Holder
holders k [] = []
holders k (A ∷ As) = holder_at k A ++ holders (suc k) As

-- the ways to take some of them, in their order
abbrev pub subsets : {X : Type 0} → List X → List (List X)
subsets [] = [] ∷ []
subsets (x ∷ xs) = map (λ s. x ∷ s) (subsets xs) ++ subsets xs

-- they hold elements of this type
abbrev pub hold : Type' → List Holder → Bool
hold A [] = true
hold A (h ∷ hs) = same_type A h.element && hold h.element hs

abbrev pub have_one_element : List Holder → Bool
have_one_element [] = true
have_one_element (h ∷ hs) = hold h.element hs

-- two to four, of one type of elements
abbrev pub can_join : List Holder → Bool
can_join hs = (nat_le 2 (length hs) && nat_le (length hs) 4) && have_one_element hs

-- the sets of components that are joined: they are among the first eight that are lists or trees
abbrev pub joined_sets : Type' → List (List Holder)
joined_sets A = filter can_join (subsets (take 8 (holders 0 (components A))))

-- the ways to cut a list into n pieces, which may be empty
abbrev pub pieces : ℕ → List Plain → List (List (List Plain))
pieces zero [] = [] ∷ []
pieces zero (i ∷ is) = []
pieces (suc n) is = flat_map (λ c. map (λ p. c.0 ∷ p) (pieces n c.1)) (cuts is)

-- the one of them whose last piece has all entries, where n is positive
abbrev pub last_piece : ℕ → List Plain → List (List Plain)
last_piece zero is = []
last_piece (suc zero) is = is ∷ []
last_piece (suc (suc n)) is = [] ∷ last_piece (suc n) is

-- the piece for the component at a place, where there is one
abbrev pub piece_at : ℕ → List ℕ → List (List Plain) → Option (List Plain)
piece_at k (p ∷ places) (x ∷ xs) = cond (nat_eq k p) (Some x) (piece_at k places xs)
piece_at k _ _ = None

abbrev pub piece_or_zero : Type' → Option (List Plain) → Plain
piece_or_zero A None = zero_of A
piece_or_zero A (Some x) = many x

-- the index of a type whose first component has the place k: pieces at these places, and zero indices elsewhere
abbrev pub filled : Type' → ℕ → List ℕ → List (List Plain) → Plain
filled (PairOf A B) k places xs = Pair (filled A k places xs) (filled B (k + length (components A)) places xs)
filled A k places xs = piece_or_zero A (piece_at k places xs)

-- a list index, the places of the components that it is cut over, and the target that this makes
pub record Joined : Type 0 where
  pub list : Plain
  pub places : List ℕ
  pub target : Target

-- Each cut of the list index into as many pieces as there are places makes one tuple.
abbrev pub joined : Type' → List ℕ → Plain → Joined
joined A places l = record {
  list = l;
  places = places;
  target = map (λ xs. filled A 0 places xs ∷ []) (pieces (length places) (entries_of l));
}

-- the list indices over a type of elements of degree at most d, but for the zero index
abbrev pub cut_lists : Type' → ℕ → List Plain
cut_lists A d = filter (λ l. nat_lt 0 (deg l)) (flat_map (λ t. t) (index_list (ListOf A ∷ []) d))

abbrev pub joined_over : Type' → ℕ → List Holder → List Joined
joined_over A d [] = []
joined_over A d (h ∷ hs) = map (joined A (map (λ (i : Holder). i.place) (h ∷ hs))) (cut_lists h.element d)

-- by degree of the list index, then by the list index, then by the places entry by entry, a prefix first
abbrev pub joined_order : Joined → Joined → Ordering
joined_order x y =
    ordering_then (nat_cmp (deg x.list) (deg y.list)) (ordering_then (order x.list y.list) (slice_cmp nat_cmp x.places y.places))

abbrev pub put : Joined → List Joined → List Joined
put x [] = x ∷ []
put x (y ∷ ys) = cond (is_lt (joined_order x y)) (x ∷ y ∷ ys) (y ∷ put x ys)

abbrev pub in_order : List Joined → List Joined
in_order [] = []
in_order (x ∷ xs) = put x (in_order xs)

abbrev pub joined_targets : Type' → ℕ → List Target
joined_targets A d = map (λ (j : Joined). j.target) (in_order (flat_map (joined_over A d) (joined_sets A)))

-- The numbered targets of a result type at degree d: a target's number is its place in this list.
abbrev pub targets : Type' → ℕ → List Target
targets A d = unit_targets A d ++ joined_targets A d

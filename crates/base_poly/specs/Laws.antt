-- Laws of indices and of base polynomials.
use Rattle.std.specs.Prelude.{◌≡◌, ◌≤◌, ◌<◌, ℕ, zero, suc, ◌+◌, ◌*◌, ◌^◌, List, [], ◌∷◌, ◌++◌, map, length, replicate, slice_get, Some}
use Rattle.raml_syntax.specs.Tree.{Type'}
use Rattle.raml_syntax.specs.Value.{Value, Has, Empty, Cons, Node, Just, size}
use Rattle.base_poly.specs.Plain.{Plain, Unit', NoEntry, OneEntry, many, deg, degrees}
use Rattle.base_poly.specs.Indices.{IsIndex, zero_of, ListsTuples, tuple_order, capped_order, index_list}
use Rattle.base_poly.specs.Base.{total, elements, base, bases}

-- the list of tuples is all of them in order, and no other list is; the first of them has the zero index of each type
pub record IndicesAreListed : Type 0 where
  pub listed : (As : List Type') (d : ℕ) → ListsTuples As d (index_list As d)
  pub first : (As : List Type') (d : ℕ) → slice_get (index_list As d) 0 ≡ Some (map zero_of As)
  pub only : (As : List Type') (d : ℕ) (ts us : List (List Plain)) → ListsTuples As d ts → ListsTuples As d us → ts ≡ us

-- The tuples of a lower degree stand first in the list, at the same positions.
abbrev pub LowerStandFirst : Type 0
LowerStandFirst =
    (As : List Type') (low high : ℕ) → low ≤ high → (more : List (List Plain)) × (index_list As high ≡ index_list As low ++ more)

-- Tuples whose degrees fit 32 bits are ordered by degree, and then component by component.
abbrev pub TuplesAreOrdered : Type 0
TuplesAreOrdered = (t u : List Plain) → degrees t < 2 ^ 32 → degrees u < 2 ^ 32 → capped_order t u ≡ tuple_order t u

-- the one index of degree 0, which is 1 at every value of its type
pub record HasZero (A : Type') : Type 0 where
  pub index : IsIndex (zero_of A) A
  pub degree : deg (zero_of A) ≡ 0
  pub only : (i : Plain) → IsIndex i A → deg i ≡ 0 → i ≡ zero_of A
  pub one : (v : Value) → Has v A → base (zero_of A) v ≡ 1

abbrev pub TypesHaveZero : Type 0
TypesHaveZero = (A : Type') → HasZero A

-- the ways to cut a list in two
abbrev pub cuts : List Plain → List (List Plain × List Plain)
cuts [] = ([], []) ∷ []
cuts (i ∷ is) = ([], i ∷ is) ∷ map (λ c. (i ∷ c.0, c.1)) (cuts is)

-- base polynomials by recursion on the value, in place of sums over positions
pub record BaseByValue : Type 0 where
  pub at_none : (v : Value) → base (many []) v ≡ 1
  pub at_empty : (i : Plain) (is : List Plain) → base (many (i ∷ is)) Empty ≡ 0
  -- the first entry stands at the head or not
  pub at_cons : (i : Plain) (is : List Plain) (h t : Value) →
      base (many (i ∷ is)) (Cons h t) ≡ base i h * base (many is) t + base (many (i ∷ is)) t
  -- the first entry stands at the node or not, and of the others the left tree has the first ones
  pub at_node : (i : Plain) (is : List Plain) (a l r : Value) → base (many (i ∷ is)) (Node a l r)
      ≡ base i a * total (λ c. base (many c.0) l * base (many c.1) r) (cuts is) + total
      (λ c. base (many c.0) l * base (many c.1) r) (cuts (i ∷ is))
  -- of an option without an entry, and of one with an entry at none and at some value
  pub at_option : (v : Value) → base NoEntry v ≡ 1
  pub at_nothing : (i : Plain) → base (OneEntry i) Empty ≡ 0
  pub at_some : (i : Plain) (v : Value) → base (OneEntry i) (Just v) ≡ base i v

-- the number of ways to choose k of n
abbrev pub choose : ℕ → ℕ → ℕ
choose n zero = 1
choose zero (suc k) = 0
choose (suc n) (suc k) = choose n k + choose n (suc k)

-- k entries that count 1 each
abbrev pub BinomialsAreBase : Type 0
BinomialsAreBase = (k : ℕ) (v : Value) → base (many (replicate k Unit')) v ≡ choose (length (elements v)) k

-- A base polynomial is no more than the degree's power of the number of cells.
pub record BaseIsBounded : Type 0 where
  pub power : (i : Plain) (v : Value) → base i v ≤ size v ^ deg i
  pub powers : (is : List Plain) (vs : List Value) → bases is vs ≤ total size vs ^ degrees is
  -- at most 2^20 cells, and degree at most 4
  pub limit : (is : List Plain) (vs : List Value) → total size vs ≤ 2 ^ 20 → degrees is ≤ 4 → bases is vs ≤ 2 ^ 80

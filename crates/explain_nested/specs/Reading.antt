-- What a base polynomial counts, as a sum over elements of products of sizes.
use Rattle.std.specs.Prelude.{ℕ, zero, suc, ◌+◌, ◌*◌, ◌==◌, ◌&&◌, Bool, true, cond, List, [], ◌∷◌, ◌++◌, length}
use Rattle.raml_syntax.specs.Value.{Value, Both, Empty}
use Rattle.base_poly.specs.Plain.{Plain, Unit', Pair, End, Then, NoEntry, OneEntry, many, deg, entry_count}
use Rattle.base_poly.specs.Base.{total, elements, choices, on_content}
use Rattle.base_poly.specs.Laws.{choose}

-- A value by its number, or a part of one: the parameters come first, and behind them the elements in the order in which they are named.
pub data Place : Type 0 where
  Named : ℕ → Place
  First : Place → Place
  Second : Place → Place

-- What stands in a reading: the number of ways to choose so many elements of a list or a tree, as a factor; a sum over so many of its
-- elements in their order, which get the next numbers; and a sum over what an option holds, which gets the next number.
pub data Piece : Type 0 where
  Choices : Place → ℕ → Piece
  Elements : Place → ℕ → Piece
  Held : Place → Piece

abbrev pub first_part : Value → Value
first_part (Both v w) = v
first_part _ = Empty

abbrev pub second_part : Value → Value
second_part (Both v w) = w
second_part _ = Empty

-- the value of this number
abbrev pub numbered : ℕ → List Value → Value
numbered k [] = Empty
numbered zero (v ∷ vs) = v
numbered (suc k) (v ∷ vs) = numbered k vs

abbrev pub value_at : Place → List Value → Value
value_at (Named k) vs = numbered k vs
value_at (First p) vs = first_part (value_at p vs)
value_at (Second p) vs = second_part (value_at p vs)

-- What a reading means at values: a factor multiplies what stands behind it, and a sum adds that up, once for each choice of elements.
abbrev pub meaning : List Piece → List Value → ℕ
meaning [] vs = 1
meaning (Choices p k ∷ rest) vs = choose (length (elements (value_at p vs))) k * meaning rest vs
meaning (Elements p k ∷ rest) vs = total (λ xs. meaning rest (vs ++ xs)) (choices k (elements (value_at p vs)))
meaning (Held p ∷ rest) vs = on_content (λ x. meaning rest (vs ++ x ∷ [])) (value_at p vs)

-- how many elements a reading names
abbrev pub names_in : List Piece → ℕ
names_in [] = 0
names_in (Choices p k ∷ rest) = names_in rest
names_in (Elements p k ∷ rest) = k + names_in rest
names_in (Held p ∷ rest) = 1 + names_in rest

-- two readings one behind the other, where n is the next number
abbrev pub both : (ℕ → List Piece) → (ℕ → List Piece) → ℕ → List Piece
both first second n = first n ++ second (n + names_in (first n))

-- each entry of a list index has degree 0
abbrev pub are_zero : Plain → Bool
are_zero (Then i r) = (deg i == 0) && are_zero r
are_zero _ = true

abbrev mutual
  -- The reading of an index at a value, where n is the next number. Entries of degree 0 count 1 at each element, so where a list index has
  -- no others it counts the ways to choose as many elements.
  pub reading : Plain → Place → ℕ → List Piece
  reading Unit' p n = []
  reading (Pair i j) p n = both (reading i (First p)) (reading j (Second p)) n
  reading End p n = []
  reading (Then i r) p n =
      cond (are_zero (Then i r)) (Choices p (suc (entry_count r)) ∷ [])
      (Elements p (suc (entry_count r)) ∷ both (reading i (Named n)) (entries_reading r (suc n)) (n + suc (entry_count r)))
  reading NoEntry p n = []
  reading (OneEntry i) p n = Held p ∷ reading i (Named n) (suc n)

  -- that of a list index's entries, at the elements from number m on
  pub entries_reading : Plain → ℕ → ℕ → List Piece
  entries_reading (Then i r) m n = both (reading i (Named m)) (entries_reading r (suc m)) n
  entries_reading _ m n = []

-- the reading of a tuple, at the parameters
abbrev pub tuple_reading : List Plain → List Piece
tuple_reading is = entries_reading (many is) 0 (length is)

-- Terms of a row: pairs of an unknown and its number.
use Rattle.std.specs.Prelude.{◌≡◌, ◌≢◌, ℕ, ◌<◌, ◌≤◌, ℤ, pos, ◌+ℤ◌, List, [], ◌∷◌, length, if◌then◌else◌, ◌==◌, slice_index_or, slice_set}
use Rattle.std.specs.List.{insert, remove}
use Rattle.std.specs.Ordering.{int_eq}

abbrev pub Terms : Type 0
Terms = List (ℕ × ℤ)

-- a row: the sum of its terms is at least its right side
pub record SparseRow : Type 0 where
  pub terms : Terms
  pub right : ℤ

-- the number of the first term that has the unknown, or 0
abbrev pub coefficient : ℕ → Terms → ℤ
coefficient u [] = pos 0
coefficient u ((v, c) ∷ rest) = if v == u then c else coefficient u rest

-- the unknown, and the number, of the term at place i
abbrev pub unknown_at : Terms → ℕ → ℕ
unknown_at ts i = let term = slice_index_or ts i (0, pos 0) in term.0

abbrev pub number_at : Terms → ℕ → ℤ
number_at ts i = let term = slice_index_or ts i (0, pos 0) in term.1

-- the unknowns ascend, and no number is 0
pub record IsSparse (ts : Terms) : Type 0 where
  pub ascending : (i j : ℕ) → i < j → j < length ts → unknown_at ts i < unknown_at ts j
  pub none_zero : (i : ℕ) → i < length ts → number_at ts i ≢ pos 0

-- new has t more at u, and at every other unknown what old has
pub record AddsAt (u : ℕ) (t : ℤ) (old new : Terms) : Type 0 where
  pub this : coefficient u new ≡ coefficient u old +ℤ t
  pub others : (v : ℕ) → v ≢ u → coefficient v new ≡ coefficient v old

-- the term at place i has the unknown
pub record IsAt (ts : Terms) (u i : ℕ) : Type 0 where
  pub in_range : i < length ts
  pub has_unknown : unknown_at ts i ≡ u

-- a term of the unknown would go at place i: lesser unknowns before it, and greater ones from it on
pub record IsGapFor (ts : Terms) (u i : ℕ) : Type 0 where
  pub in_range : i ≤ length ts
  pub lesser_before : (j : ℕ) → j < i → unknown_at ts j < u
  pub greater_after : (j : ℕ) → i ≤ j → j < length ts → u < unknown_at ts j

-- the terms where that at place i has the number c, or is gone where c is 0
abbrev pub with_number : Terms → ℕ → ℤ → Terms
with_number ts i c = if int_eq c (pos 0) then remove ts i else slice_set ts i (unknown_at ts i, c)

-- the terms with a new one at place i, unless its number is 0
abbrev pub with_term : Terms → ℕ → ℕ → ℤ → Terms
with_term ts i u c = if int_eq c (pos 0) then ts else insert ts i (u, c)

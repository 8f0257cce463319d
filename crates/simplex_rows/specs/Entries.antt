-- Rows of fractions, and fractions less a product.
use Rattle.std.specs.Prelude.{◌≡◌, ◌≢◌, ℕ, suc, ◌≤◌, ◌<◌, List, [], ◌∷◌, map, slice_index_or, Option, Some, None, pos, ◌⊎◌, if◌then◌else◌}
use Rattle.std.specs.Prelude.{◌==◌}
use Rattle.raml_num.specs.Divisors.{IsLcm}
use Rattle.frac128.specs.declared.Frac.{Frac}
use Rattle.frac128.specs.Nought.{nought}
use Rattle.frac128.specs.Values.{numerator, denominator, IsProduct, IsQuotient, IsDifference, DifferenceFits}

abbrev pub IsNought : Frac → Type 0
IsNought x = (numerator x ≡ pos 0) × (denominator x ≡ 1)

-- the fractions of a row that are not 0, each with its column
abbrev pub Entries : Type 0
Entries = List (ℕ × Frac)

-- the fraction at a column
abbrev pub at : ℕ → Entries → Frac
at c [] = nought
at c ((k, x) ∷ es) = if k == c then x else at c es

-- the columns of a row's fractions
abbrev pub columns_of : Entries → List ℕ
columns_of es = map (λ e. e.0) es

-- the columns ascend from b on, and no fraction is 0
abbrev pub SparseFrom : ℕ → Entries → Type 0
SparseFrom b [] = Unit {0}
SparseFrom b ((k, x) ∷ es) = (b ≤ k) × (numerator x ≢ pos 0) × SparseFrom (suc k) es

abbrev pub IsSparse : Entries → Type 0
IsSparse es = SparseFrom 0 es

-- the entry at a place, of which there are as many as the row has fractions that are not 0
abbrev pub entry_at : Entries → ℕ → ℕ × Frac
entry_at es i = slice_index_or es i (0, nought)

-- the first column from `from` on at which the fraction is not 0, or None where it is 0 at all of these
abbrev pub IsNextColumn : ℕ → Entries → Option ℕ → Type 0
IsNextColumn from es None = (k : ℕ) → from ≤ k → at k es ≡ nought
IsNextColumn from es (Some c) = (from ≤ c) × (numerator (at c es) ≢ pos 0) × ((k : ℕ) → from ≤ k → k < c → at k es ≡ nought)

-- r is x less f times q, and neither the product nor the difference leaves the range
pub record IsLess (x f q r : Frac) : Type 0 where
  pub product : Frac
  pub is_product : IsProduct f q product
  pub fits : (m : ℕ) → IsLcm (denominator x) (denominator product) m → DifferenceFits x product m
  pub is_difference : IsDifference x product r

-- f times q, or x less that product, leaves the range
abbrev pub LessLeaves : Frac → Frac → Frac → Type 0
LessLeaves x f q =
    ((p : Frac) → IsProduct f q p → ⊥)
    ⊎ ((p : Frac) × IsProduct f q p × ((m : ℕ) → IsLcm (denominator x) (denominator p) m → DifferenceFits x p m → ⊥))

-- no fraction of the range is x over y
abbrev pub QuotientLeaves : Frac → Frac → Type 0
QuotientLeaves x y = (q : Frac) → IsQuotient x y q → ⊥

-- each column is before c
abbrev pub EndsBefore : ℕ → Entries → Type 0
EndsBefore c [] = Unit {0}
EndsBefore c ((k, x) ∷ es) = (k < c) × EndsBefore c es

-- the first column, if there is one, is c or comes after it
abbrev pub StartsAt : ℕ → Entries → Type 0
StartsAt c [] = Unit {0}
StartsAt c ((k, x) ∷ es) = c ≤ k

-- new has x at column c, and as old at the others
pub record Adds (c : ℕ) (x : Frac) (old new : Entries) : Type 0 where
  pub num : numerator (at c new) ≡ numerator x
  pub den : denominator (at c new) ≡ denominator x
  pub others : (k : ℕ) → k ≢ c → at k new ≡ at k old

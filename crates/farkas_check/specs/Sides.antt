-- Totals that grow by the terms of a list.
use Rattle.std.specs.Prelude.{◌≡◌, ℕ, ◌<◌, ℤ, pos, ◌+ℤ◌, ◌*ℤ◌, List, [], ◌∷◌, ◌++◌, map, length, slice_index_or, FitsSigned, Option, Some}
use Rattle.std.specs.Prelude.{None}
use Rattle.std.specs.Int.{w128}
use Rattle.linear_rows.specs.Terms.{SparseRow, Terms, coefficient, unknown_at}
use Rattle.farkas_check.specs.declared.totals.Totals.{Totals}
use Rattle.farkas_check.specs.Totals.{gains, losses, TotalsFit}

-- the totals of a list of terms, or none exactly where one of them does not fit
abbrev pub IsTotals : List ℤ → Option Totals → Type 0
IsTotals zs None = TotalsFit zs → ⊥
IsTotals zs (Some t) = (t.positive ≡ gains zs) × (t.negative ≡ losses zs)

-- the totals with the terms of a list more, or none exactly where one of them does not fit
abbrev pub MovedBy : Totals → List ℤ → Option Totals → Type 0
MovedBy s zs None = FitsSigned w128 (s.positive +ℤ gains zs) → FitsSigned w128 (s.negative +ℤ losses zs) → ⊥
MovedBy s zs (Some t) = (t.positive ≡ s.positive +ℤ gains zs) × (t.negative ≡ s.negative +ℤ losses zs)

-- z is one term more: o has the totals of it and of every list that s has the totals of
pub record IsMoved (s : Option Totals) (z : ℤ) (o : Option Totals) : Type 0 where
  pub on : (zs : List ℤ) → IsTotals zs s → IsTotals (zs ++ z ∷ []) o

abbrev pub totals_at : List (Option Totals) → ℕ → Option Totals
totals_at totals u = slice_index_or totals u None

-- the totals of n lists of terms
pub record AreTotals (n : ℕ) (terms : ℕ → List ℤ) (totals : List (Option Totals)) : Type 0 where
  pub count : length totals ≡ n
  pub each : (u : ℕ) → u < n → IsTotals (terms u) (totals_at totals u)

-- at each unknown, the product of y and the row's number is one term more
pub record RowAdded (y : ℤ) (row : SparseRow) (old new : List (Option Totals)) : Type 0 where
  pub count : length new ≡ length old
  pub each : (u : ℕ) → IsMoved (totals_at old u) (y *ℤ coefficient u row.terms) (totals_at new u)

-- the products of the terms' numbers and their unknowns' values
abbrev pub sparse_products : Terms → List ℤ → List ℤ
sparse_products ts x = map (λ (e : ℕ × ℤ). e.1 *ℤ slice_index_or x e.0 (pos 0)) ts

-- each term's unknown is below n
abbrev pub AllInside : Terms → ℕ → Type 0
AllInside ts n = (i : ℕ) → i < length ts → unknown_at ts i < n

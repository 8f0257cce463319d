-- The tableau of a system, and pivots.
use Rattle.std.specs.Prelude.{◌≡◌, ℕ, ◌+◌, ◌<◌, List, [], ◌∷◌, ◌++◌, length, map, ℤ, pos, neg_ℤ, ◌*ℤ◌, ◌<ℤ◌, ◌⊎◌, slice_set}
use Rattle.linear_rows.specs.Terms.{coefficient}
use Rattle.linear_rows.specs.Systems.{LinearSystem, right_sides}
use Rattle.linear_rows.specs.Vectors.{scale, zeros}
use Rattle.simplex_spec.specs.Places.{at, row_at, at_each, column, counted, only, spread, swept}

-- whole numbers, all over one positive number: a row for each unknown, and the row of the gains. The
-- columns are one for each row of the system, a slack for each unknown, and the right sides. Each
-- unknown's row has a basis column
pub record Tableau : Type 0 where
  pub rows : List (List ℤ)
  pub gains : List ℤ
  pub over : ℤ
  pub basis : List ℕ

-- the column of the right sides, and those of the slacks
abbrev pub right : LinearSystem → ℕ
right s = length s.rows + s.unknowns

abbrev pub slacks : LinearSystem → List ℕ
slacks s = counted (length s.rows) s.unknowns

-- an unknown's numbers in the system's rows, its slack, and its weight
abbrev pub opening_row : LinearSystem → ℕ → List ℤ
opening_row s i = map (λ row. coefficient i row.terms) s.rows ++ (only s.unknowns i (pos 1) ++ at s.weights i ∷ [])

abbrev pub opening : LinearSystem → Tableau
opening s = record {
  rows = map (opening_row s) (counted 0 s.unknowns);
  gains = right_sides s ++ (zeros s.unknowns ++ pos 0 ∷ []);
  over = pos 1;
  basis = slacks s;
}

-- a row without what it has of the lead in column c, times the lead's number there
abbrev pub sweep : ℕ → List ℤ → List ℤ → List ℤ
sweep c lead row = swept (at lead c) (at row c) row lead

abbrev pub sweep_each : ℕ → List ℤ → List (List ℤ) → List (List ℤ)
sweep_each c lead [] = []
sweep_each c lead (row ∷ rows) = sweep c lead row ∷ sweep_each c lead rows

-- the pivot in row l and column c
abbrev pub pivot : ℕ → ℕ → Tableau → Tableau
pivot l c t = record {
  rows = slice_set (sweep_each c (row_at t.rows l) t.rows) l (scale t.over (row_at t.rows l));
  gains = sweep c (row_at t.rows l) t.gains;
  over = t.over *ℤ at (row_at t.rows l) c;
  basis = slice_set t.basis l c;
}

-- the number in row i, where the gains come after the other rows, and column c
abbrev pub entry : Tableau → ℕ → ℕ → ℤ
entry t i c = at (row_at (t.rows ++ t.gains ∷ []) i) c

-- as far as both go: the same, or less where they first differ
abbrev pub LexAtMost : List ℤ → List ℤ → Type 0
LexAtMost [] ys = Unit {0}
LexAtMost (x ∷ xs) [] = Unit {0}
LexAtMost (x ∷ xs) (y ∷ ys) = (x <ℤ y) ⊎ ((x ≡ y) × LexAtMost xs ys)

-- of the rows with a positive number in column c, row i over that number is least in the columns cs
pub record IsLeastRow (cs : List ℕ) (c : ℕ) (t : Tableau) (i : ℕ) : Type 0 where
  pub inside : i < length t.rows
  pub positive : pos 0 <ℤ at (row_at t.rows i) c
  pub least : (m : ℕ) → m < length t.rows → pos 0 <ℤ at (row_at t.rows m) c
      → LexAtMost (scale (at (row_at t.rows m) c) (at_each (row_at t.rows i) cs))
      (scale (at (row_at t.rows i) c) (at_each (row_at t.rows m) cs))

-- the columns by which rows are compared, in order
abbrev pub compared : LinearSystem → List ℕ
compared s = right s ∷ slacks s

-- the row that exits the basis where column c enters it
abbrev pub Exits : LinearSystem → ℕ → Tableau → ℕ → Type 0
Exits s c t l = IsLeastRow (compared s) c t l

-- over the tableau's number: a number for each unknown, read at the slacks
abbrev pub solution : LinearSystem → Tableau → List ℤ
solution s t = map neg_ℤ (at_each t.gains (slacks s))

-- a number for each row of the system: the right side in the row whose basis column it is
abbrev pub dual : LinearSystem → Tableau → List ℤ
dual s t = spread (length s.rows) t.basis (column (right s) t.rows)

-- a number for each row of the system: 1 at column c, and what it takes from the basis columns
abbrev pub ray : LinearSystem → ℕ → Tableau → List ℤ
ray s c t = spread (length s.rows) (c ∷ t.basis) (t.over ∷ map neg_ℤ (column c t.rows))

-- Rows that are tied for the least quotient.
use Rattle.std.specs.Prelude.{◌≡◌, ℕ, ◌-◌, ◌<◌, List, [], ◌∷◌, ◌++◌, Bool, true, false, if◌then◌else◌, length, pos, ◌<ℤ◌}
use Rattle.std.specs.declared.cmp.Ordering.{Ordering}
use Rattle.std.specs.declared.cmp.Ordering.TheVariants.{Less, Equal, Greater}
use Rattle.frac128.specs.declared.Frac.{Frac}
use Rattle.frac128.specs.Order.{order_of}
use Rattle.frac128.specs.Values.{numerator, IsQuotient}
use Rattle.simplex_rows.specs.Entries.{Entries, at, QuotientLeaves}
use Rattle.simplex_spec.specs.Places.{row_at, counted}
use Rattle.simplex_spec.specs.Places as places
use Rattle.simplex_spec.specs.Tableaux.{Tableau, IsLeastRow}
use Rattle.simplex_spec.specs.Refusals.{NoFraction, IsCompared}
use Rattle.simplex.specs.Among.{Among, AllDiffer}
use Rattle.simplex.specs.Standing.{entries_at, RowsStand}

-- row i has a positive number at column s
pub record IsBounding (s : ℕ) (rows : List Entries) (i : ℕ) : Type 0 where
  pub inside : i < length rows
  pub positive : pos 0 <ℤ numerator (at s (entries_at rows i))

-- these are the rows with a positive number at column s
pub record AreBounding (s : ℕ) (rows : List Entries) (is : List ℕ) : Type 0 where
  pub only : (i : ℕ) → Among i is → IsBounding s rows i
  pub all : (i : ℕ) → IsBounding s rows i → Among i is
  pub differ : AllDiffer is

-- x is row i's number at column c over that at column s
abbrev pub IsRatio : ℕ → ℕ → List Entries → ℕ → Frac → Type 0
IsRatio s c rows i x = IsQuotient (at c (entries_at rows i)) (at s (entries_at rows i)) x

-- row i, one of those in among, has no ratio in the range, and c is its column
pub record RatioLeaves (s column : ℕ) (rows : List Entries) (among : List ℕ) (i c : ℕ) : Type 0 where
  pub is_among : Among i among
  pub at_column : c ≡ column
  pub leaves : QuotientLeaves (at c (entries_at rows i)) (at s (entries_at rows i))

-- of the rows in among, those in tied have the ratio least, and the others have a greater one
pub record AreTied (s c : ℕ) (rows : List Entries) (among tied : List ℕ) (least : Frac) : Type 0 where
  pub subset : (i : ℕ) → Among i tied → Among i among
  pub least_ratio : (i : ℕ) → Among i tied → IsRatio s c rows i least
  pub greater : (i : ℕ) → Among i among → (Among i tied → ⊥) → (x : Frac) × IsRatio s c rows i x × (order_of least x ≡ Less)
  pub some : (i : ℕ) → Among i among → (j : ℕ) × Among j tied
  pub differ : AllDiffer among → AllDiffer tied

-- a row with the ratio x comes to those that are tied with the ratio least: where none is, or x is less,
-- it is left alone; it joins them where both are equal
abbrev pub KeepsBy : Ordering → List ℕ → Frac → ℕ → Frac → List ℕ → Frac → Type 0
KeepsBy Less tied least i x new new_least = (new ≡ i ∷ []) × (new_least ≡ x)
KeepsBy Equal tied least i x new new_least = (new ≡ tied ++ i ∷ []) × (new_least ≡ least)
KeepsBy Greater tied least i x new new_least = (new ≡ tied) × (new_least ≡ least)

abbrev pub ratio_order : Bool → Frac → Frac → Ordering
ratio_order none x least = if none then Less else order_of x least

abbrev pub is_none : List ℕ → Bool
is_none [] = true
is_none (i ∷ is) = false

abbrev pub Keeps : List ℕ → Frac → ℕ → Frac → List ℕ → Frac → Type 0
Keeps tied least i x new new_least = KeepsBy (ratio_order (is_none tied) x least) tied least i x new new_least

-- the columns by which rows are compared: the right side, and then the slacks before it
abbrev pub columns_to : ℕ → ℕ → ℕ → List ℕ
columns_to right slack column = right ∷ counted slack (column - slack)

-- in any tableau that the rows stand for, row l is least, and each ratio that the search looks at is in the
-- range of fractions
pub record IsExiting (cs : List ℕ) (s : ℕ) (rows : List Entries) (l : ℕ) : Type 0 where
  pub bounding : IsBounding s rows l
  pub least : (t : Tableau) → pos 0 <ℤ t.over → RowsStand t rows → IsLeastRow cs s t l
  pub looked : (t : Tableau) → pos 0 <ℤ t.over → RowsStand t rows → (i c : ℕ) → IsCompared cs t s i c
      → NoFraction (places.at (row_at t.rows i) c) (places.at (row_at t.rows i) s) → ⊥

-- the search looks at the ratio of row i in column c, which leaves the range
pub record SearchLeaves (cs : List ℕ) (s : ℕ) (rows : List Entries) (i c : ℕ) : Type 0 where
  pub leaves : (t : Tableau) → pos 0 <ℤ t.over → RowsStand t rows → IsCompared cs t s i c
      × NoFraction (places.at (row_at t.rows i) c) (places.at (row_at t.rows i) s)

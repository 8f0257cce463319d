-- What is checked of a vector, in order, and the verdict on it.
use Rattle.std.specs.Prelude.{◌≡◌, ℕ, zero, suc, ℤ, pos, neg_ℤ, ◌*ℤ◌, ◌≤ℤ◌, ◌<ℤ◌, List, [], ◌∷◌, ◌++◌, map, ◌⊎◌}
use Rattle.raml_num.specs.Sums.{total}
use Rattle.linear_rows.specs.Terms.{SparseRow, coefficient}
use Rattle.linear_rows.specs.Systems.{LinearSystem, numbers_from, right_sides}
use Rattle.farkas_check.specs.declared.Verdict.{Verdict}
use Rattle.farkas_check.specs.declared.Verdict.TheVariants.{Yes, No, Leaves}
use Rattle.farkas_check.specs.Totals.{TotalsFit, products}

-- what is asked of a total: at most 0, at least 0, more than 0, or 0
pub data Demand : Type 0 where
  NotAbove : Demand
  NotBelow : Demand
  Above : Demand
  Level : Demand

abbrev pub Meets : Demand → ℤ → Type 0
Meets NotAbove z = z ≤ℤ pos 0
Meets NotBelow z = pos 0 ≤ℤ z
Meets Above z = pos 0 <ℤ z
Meets Level z = z ≡ pos 0

-- terms, all moved to one side, what is asked of their total, and the column that is named where it fails
pub record Check : Type 0 where
  pub column : ℕ
  pub demand : Demand
  pub terms : List ℤ

pub record Passes (k : Check) : Type 0 where
  pub fit : TotalsFit k.terms
  pub meets : Meets k.demand (total k.terms)

abbrev pub EachPasses : List Check → Type 0
EachPasses [] = Unit {0}
EachPasses (k ∷ ks) = Passes k × EachPasses ks

abbrev pub EachFits : List Check → Type 0
EachFits [] = Unit {0}
EachFits (k ∷ ks) = TotalsFit k.terms × EachFits ks

-- the check fails: a total leaves 128 bits, or both are there and the demand is not met
abbrev pub IsFault : Check → Verdict → Type 0
IsFault k Yes = ⊥
IsFault k (No c) = (c ≡ k.column) × TotalsFit k.terms × (Meets k.demand (total k.terms) → ⊥)
IsFault k (Leaves c) = (c ≡ k.column) × (TotalsFit k.terms → ⊥)

-- the first check that does not pass fails so
abbrev pub IsFirstFault : List Check → Verdict → Type 0
IsFirstFault [] v = ⊥
IsFirstFault (k ∷ ks) v = IsFault k v ⊎ (Passes k × IsFirstFault ks v)

abbrev pub IsVerdict : List Check → Verdict → Type 0
IsVerdict ks Yes = EachPasses ks
IsVerdict ks (No c) = IsFirstFault ks (No c)
IsVerdict ks (Leaves c) = IsFirstFault ks (Leaves c)

-- the numbers of an unknown in all rows
abbrev pub column : ℕ → List SparseRow → List ℤ
column u rows = map (λ row. coefficient u row.terms) rows

-- y A is at most 0 at the n unknowns from u on
abbrev pub refuting_columns : ℕ → ℕ → List SparseRow → List ℤ → List Check
refuting_columns u zero rows y = []
refuting_columns u (suc n) rows y =
    record { column = u; demand = NotAbove; terms = products y (column u rows) } ∷ refuting_columns (suc u) n rows y

-- y A is at most 0 at each unknown, and y b is positive
abbrev pub refuting : LinearSystem → List ℤ → List Check
refuting s y =
    refuting_columns 0 s.unknowns s.rows y ++ record { column = s.unknowns; demand = Above; terms = products y (right_sides s) } ∷ []

-- a x - t b is at least 0 at a row
abbrev pub solving_row : ℕ → List ℤ → ℤ → SparseRow → Check
solving_row n x t row = record { column = n; demand = NotBelow; terms = neg_ℤ (t *ℤ row.right) ∷ products (numbers_from 0 n row.terms) x }

abbrev pub solving_rows : ℕ → List ℤ → ℤ → List SparseRow → List Check
solving_rows n x t rows = map (solving_row n x t) rows

-- y A - t c is at most 0 at the unknowns from u on, which have the weights c
abbrev pub dual_columns : ℕ → List ℤ → List SparseRow → List ℤ → ℤ → List Check
dual_columns u [] rows y t = []
dual_columns u (c ∷ cs) rows y t =
    record { column = u; demand = NotAbove; terms = neg_ℤ (t *ℤ c) ∷ products y (column u rows) } ∷ dual_columns (suc u) cs rows y t

-- y b and c x are equal
abbrev pub equal_sums : LinearSystem → List ℤ → List ℤ → Check
equal_sums s x y = record { column = s.unknowns; demand = Level; terms = products y (right_sides s) ++ map neg_ℤ (products s.weights x) }

-- x over t solves the rows, y over t is a dual solution, and their sums are equal
abbrev pub proving_least : LinearSystem → List ℤ → List ℤ → ℤ → List Check
proving_least s x y t = solving_rows s.unknowns x t s.rows ++ (dual_columns 0 s.weights s.rows y t ++ equal_sums s x y ∷ [])

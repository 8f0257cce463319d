-- Systems of rows, and what solves or refutes them.
use Rattle.std.specs.Prelude.{◌≡◌, ℕ, zero, suc, ◌≤◌, ℤ, pos, ◌*ℤ◌, ◌≤ℤ◌, ◌<ℤ◌, List, [], ◌∷◌, length, map}
use Rattle.raml_num.specs.Sums.{NoneNegative}
use Rattle.linear_rows.specs.Terms.{SparseRow, Terms, coefficient}
use Rattle.linear_rows.specs.Vectors.{dot, scale, zeros, mix, times, AtMost}

-- rows over unknowns that are not negative, and a weight for each unknown
pub record LinearSystem : Type 0 where
  pub unknowns : ℕ
  pub rows : List SparseRow
  pub weights : List ℤ

-- no unknown from n on has a term
abbrev pub IsBelow : ℕ → SparseRow → Type 0
IsBelow n row = (u : ℕ) → n ≤ u → coefficient u row.terms ≡ pos 0

abbrev pub AllBelow : ℕ → List SparseRow → Type 0
AllBelow n [] = Unit {0}
AllBelow n (row ∷ rows) = IsBelow n row × AllBelow n rows

-- each row speaks of the system's unknowns alone, and each of these has a natural weight
pub record IsSystem (s : LinearSystem) : Type 0 where
  pub below : AllBelow s.unknowns s.rows
  pub one_each : length s.weights ≡ s.unknowns
  pub natural : NoneNegative s.weights

-- the numbers of n unknowns from u on
abbrev pub numbers_from : ℕ → ℕ → Terms → List ℤ
numbers_from u zero ts = []
numbers_from u (suc n) ts = coefficient u ts ∷ numbers_from (suc u) n ts

-- A, with a list of numbers for each row, and b
abbrev pub matrix : LinearSystem → List (List ℤ)
matrix s = map (λ row. numbers_from 0 s.unknowns row.terms) s.rows

abbrev pub right_sides : LinearSystem → List ℤ
right_sides s = map (λ row. row.right) s.rows

-- x over t solves the system: x >= 0 and A x >= t b
pub record Solves (s : LinearSystem) (x : List ℤ) (t : ℤ) : Type 0 where
  pub one_each : length x ≡ s.unknowns
  pub natural : NoneNegative x
  pub rows : AtMost (scale t (right_sides s)) (times (matrix s) x)

-- y refutes the system: y >= 0, y A <= 0 and y b > 0
pub record Refutes (s : LinearSystem) (y : List ℤ) : Type 0 where
  pub one_each : length y ≡ length s.rows
  pub natural : NoneNegative y
  pub columns : AtMost (mix s.unknowns y (matrix s)) (zeros s.unknowns)
  pub right : pos 0 <ℤ dot y (right_sides s)

-- y over t is a dual solution: y >= 0 and y A <= t c
pub record IsDual (s : LinearSystem) (y : List ℤ) (t : ℤ) : Type 0 where
  pub one_each : length y ≡ length s.rows
  pub natural : NoneNegative y
  pub columns : AtMost (mix s.unknowns y (matrix s)) (scale t s.weights)

-- x over t solves the system, y over t is a dual solution, and their sums are equal
pub record ProvesLeast (s : LinearSystem) (x y : List ℤ) (t : ℤ) : Type 0 where
  pub positive : pos 0 <ℤ t
  pub solves : Solves s x t
  pub dual : IsDual s y t
  pub equal : dot y (right_sides s) ≡ dot s.weights x

-- x over t solves the system, and no solution has a lesser weighted sum
pub record IsLeast (s : LinearSystem) (x : List ℤ) (t : ℤ) : Type 0 where
  pub solves : Solves s x t
  pub least : (z : List ℤ) (r : ℤ) → pos 0 <ℤ r → Solves s z r → (r *ℤ dot s.weights x) ≤ℤ (t *ℤ dot s.weights z)

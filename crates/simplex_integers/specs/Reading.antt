-- What is read of a system where its pivots end, and when it passes the check.
use Rattle.std.specs.Prelude.{◌≡◌, ◌+◌, ℕ, pos, List, ◌++◌, length, ◌<◌, ℤ, map, slice_index_or}
use Rattle.linear_rows.specs.Systems.{LinearSystem}
use Rattle.simplex_spec.specs.Tableaux.{Tableau, solution, dual, ray}
use Rattle.simplex_spec.specs.Courses.{Rule, Ends, Rises, Follows, Answers}
use Rattle.simplex_integers.specs.Wholes.{AreLeastWholes, most}
use Rattle.farkas_check.specs.Checks.{refuting, proving_least, EachPasses}

-- the pivots by the rule end, and over t the solution that is read there is x
pub record ReadsSolution (rule : Rule) (s : LinearSystem) (t : ℕ) (x : List ℕ) : Type 0 where
  pub pivots : List (ℕ × ℕ)
  pub table : Tableau
  pub ends : Ends s pivots table
  pub follows : Follows rule s pivots
  pub whole : AreLeastWholes table.over (solution s table) t x

-- likewise, with the dual numbers y behind those of the solution
pub record ReadsBoth (rule : Rule) (s : LinearSystem) (t : ℕ) (x y : List ℕ) : Type 0 where
  pub pivots : List (ℕ × ℕ)
  pub table : Tableau
  pub ends : Ends s pivots table
  pub follows : Follows rule s pivots
  pub whole : AreLeastWholes table.over (solution s table ++ dual s table) t (x ++ y)
  pub unknowns : length x ≡ s.unknowns

-- the pivots by the rule rise, and the vector that is read there, in least whole numbers, is y
pub record ReadsVector (rule : Rule) (s : LinearSystem) (y : List ℕ) : Type 0 where
  pub pivots : List (ℕ × ℕ)
  pub table : Tableau
  pub column : ℕ
  pub rises : Rises s pivots table column
  pub follows : Follows rule s pivots
  pub answers : Answers rule s table column
  pub t : ℕ
  pub whole : AreLeastWholes table.over (ray s column table) t y

-- what is read for the check of a system's answer, over the tableau's number: the solution and the dual numbers behind it, or the vector
pub data Read (rule : Rule) (s : LinearSystem) (d : ℤ) (ns : List ℤ) : Type 0 where
  Both : (pivots : List (ℕ × ℕ)) (t : Tableau) → Ends s pivots t → Follows rule s pivots →
      d ≡ t.over → ns ≡ solution s t ++ dual s t → Read rule s d ns
  Vector : (pivots : List (ℕ × ℕ)) (t : Tableau) (column : ℕ) → Rises s pivots t column → Follows rule s pivots → Answers rule s t column →
      d ≡ t.over → ns ≡ ray s column t → Read rule s d ns

module _ (rule : Rule) (s : LinearSystem) where
  -- a solution is read that fits, with the dual's numbers, over their denominator
  pub record BothAreFine (t : ℕ) (x y : List ℕ) : Type 0 where
    pub both : ReadsBoth rule s t x y
    pub denominator : t < most
    pub numbers : (entry : ℕ) → slice_index_or (x ++ y) entry 0 < most

  -- a vector is read that fits
  pub record VectorIsFine (y : List ℕ) : Type 0 where
    pub vector : ReadsVector rule s y
    pub denominator : vector.t < most
    pub numbers : (entry : ℕ) → slice_index_or y entry 0 < most

-- solution and dual pass the check
abbrev pub ArePassed : LinearSystem → ℕ → List ℕ → List ℕ → Type 0
ArePassed s t x y = EachPasses (proving_least s (map pos x) (map pos y) (pos t))

-- the vector passes the check
abbrev pub IsPassed : LinearSystem → List ℕ → Type 0
IsPassed s y = EachPasses (refuting s (map pos y))

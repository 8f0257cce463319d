-- The tableau that the code keeps, and what solving answers.
use Rattle.std.specs.Prelude.{◌≡◌, ℕ, ◌+◌, ◌<◌, ◌≤◌, List, [], length, ℤ, pos, ◌*ℤ◌, ◌<ℤ◌, Option, Some, ◌∷◌, ◌++◌, slice_set}
use Rattle.std.specs.Fn.{Shared, FnReturnsAt}
use Rattle.std.specs.Borrow.{Bor}
use Rattle.frac128.specs.declared.Frac.{Frac}
use Rattle.simplex_rows.specs.Entries.{Entries}
use Rattle.linear_rows.specs.Systems.{LinearSystem, Refutes, ProvesLeast, IsLeast}
use Rattle.linear_rows.specs.Vectors.{dot}
use Rattle.simplex_spec.specs.Places.{row_at}
use Rattle.simplex_spec.specs.Places as places
use Rattle.simplex_spec.specs.Tableaux.{Tableau, compared, opening, slacks, solution, dual, ray}
use Rattle.simplex_spec.specs.Courses.{Rule, Course, Enters, Ends, Rises, Follows, Answers, Refuses}
use Rattle.simplex.specs.declared.answer.Answer.{Answer}
use Rattle.simplex.specs.declared.answer.Answer.TheVariants.{Best, NoSolution, Leaves}
use Rattle.simplex.specs.declared.answer.Within.{Within}
use Rattle.simplex.specs.declared.answer.Within.TheVariants.{Answered, Cut}
use Rattle.simplex.specs.declared.table.Table.{Table}
use Rattle.simplex.specs.declared.solver.Scratch.{Scratch}
use Rattle.simplex.specs.declared.solver.Step.{Step}
use Rattle.simplex.specs.declared.solver.Step.TheVariants as step
use Rattle.simplex.specs.Standing.{TableStands, RowsStand, RowStands, AreTouching, IsPivoted, PivotLeaves}
use Rattle.simplex.specs.Ties.{AreBounding, IsExiting, SearchLeaves}
use Rattle.simplex.specs.Reading.{AreOver, AreOf}
use Rattle.simplex.specs.Covering.{Cover}

-- the answers to fractions, as a rule for whole numbers over d
abbrev pub rule_over : (List Frac → Option ℕ → Type 0) → Rule
rule_over answers ns d o = (fs : List Frac) × AreOver d ns fs × answers fs o

-- the rule that the chooser keeps
abbrev pub rule_of : {F : Type 0} → Shared F (Bor (List Frac) × Unit {0}) (Option ℕ) → F → Rule
rule_of g rule = rule_over (FnReturnsAt g rule)

-- these pivots lead to t, and the rows, the gains and the basis are those of t
pub record IsAfter (s : LinearSystem) (pivots : List (ℕ × ℕ)) (basis : List ℕ)
    (rows : List Entries) (gains : Entries) (t : Tableau) : Type 0 where
  pub course : Course s pivots t
  pub stand : TableStands t rows gains
  pub basis_is : t.basis ≡ basis
  pub height : length rows ≡ s.unknowns

-- after these pivots no gain is left, and x and the dual solution are read there. Over every number over
-- which it is whole x is least, and where the dual solution is, too, that proves it
pub record IsBest (rule : Rule) (s : LinearSystem) (pivots : List (ℕ × ℕ)) (x y : List Frac) : Type 0 where
  pub t : Tableau
  pub ends : Ends s pivots t
  pub follows : Follows rule s pivots
  pub positive : pos 0 <ℤ t.over
  pub x_is : AreOver t.over (solution s t) x
  pub y_is : AreOver t.over (dual s t) y
  pub least : (d : ℤ) (xs : List ℤ) → pos 0 <ℤ d → AreOver d xs x → IsLeast s xs d
  pub proves : (d : ℤ) (xs ys : List ℤ) → pos 0 <ℤ d → AreOver d xs x → AreOver d ys y → ProvesLeast s xs ys d

-- after these pivots no row bounds the rule's column, and the vector y is read there. Over every number over
-- which it is whole it refutes the system
pub record IsRefuted (rule : Rule) (s : LinearSystem) (pivots : List (ℕ × ℕ)) (y : List Frac) : Type 0 where
  pub t : Tableau
  pub column : ℕ
  pub rises : Rises s pivots t column
  pub follows : Follows rule s pivots
  pub answers : Answers rule s t column
  pub positive : pos 0 <ℤ t.over
  pub y_is : AreOver t.over (ray s column t) y
  pub refutes : (d : ℤ) (ys : List ℤ) → pos 0 <ℤ d → AreOver d ys y → Refutes s ys

-- each answer has its cause
abbrev pub IsAnswer : Rule → LinearSystem → Answer → Type 0
IsAnswer rule s (Best x dual pivots) = IsBest rule s pivots.items x.items dual.items
IsAnswer rule s (NoSolution farkas pivots) = IsRefuted rule s pivots.items farkas.items
IsAnswer rule s (Leaves pivots row column) = Refuses rule s pivots.items row column

-- the answer is that there is no solution
abbrev pub SaysNone : Answer → Type 0
SaysNone (Best x dual pivots) = ⊥
SaysNone (NoSolution farkas pivots) = Unit {0}
SaysNone (Leaves pivots row column) = ⊥

-- row i has a positive number at column c
pub record Bounds (t : Tableau) (c i : ℕ) : Type 0 where
  pub inside : i < length t.rows
  pub positive : pos 0 <ℤ places.at (row_at t.rows i) c

-- just so many pivots by the rule are made, and there some row bounds its column
pub record IsCut (rule : Rule) (s : LinearSystem) (most : ℕ) (pivots : List (ℕ × ℕ)) : Type 0 where
  pub t : Tableau
  pub column : ℕ
  pub course : Course s pivots t
  pub follows : Follows rule s pivots
  pub count : length pivots ≡ most
  pub enters : Enters s t column
  pub answers : Answers rule s t column
  pub row : ℕ
  pub bounds : Bounds t column row

-- an answer has its cause, and what is cut has just so many pivots as the limit
abbrev pub IsWithin : Rule → LinearSystem → Option ℕ → Within → Type 0
IsWithin rule s most (Answered answer) = IsAnswer rule s answer
IsWithin rule s most (Cut pivots) = (m : ℕ) × (most ≡ Some m) × IsCut rule s m pivots.items

-- it is cut
abbrev pub SaysCut : Within → Type 0
SaysCut (Answered answer) = ⊥
SaysCut (Cut pivots) = Unit {0}

-- there is a limit, and after so many pivots by the rule some row bounds its column
pub record CutsBy (rule : Rule) (s : LinearSystem) (most : Option ℕ) : Type 0 where
  pub limit : ℕ
  pub is_limit : most ≡ Some limit
  pub pivots : List (ℕ × ℕ)
  pub cut : IsCut rule s limit pivots

-- the limit, where there is one, is at least n, or more
abbrev pub UpTo : Option ℕ → ℕ → Type 0
UpTo most n = (m : ℕ) → most ≡ Some m → n ≤ m

abbrev pub Below : Option ℕ → ℕ → Type 0
Below most n = (m : ℕ) → most ≡ Some m → n < m

-- of n columns, marks of the table's rows and the fractions of its gains
pub record IsReady (n : ℕ) (table : Table) (scratch : Scratch) : Type 0 where
  pub cover : Cover n table.rows.items scratch.marks.items
  pub seen : AreOf n table.gains scratch.gains.items

-- the rows with a number at column c, and those that bound it, of which there is one
pub record AreFound (c : ℕ) (table : Table) (scratch : Scratch) : Type 0 where
  pub touching : AreTouching c table.rows.items scratch.touching.items
  pub bounding : AreBounding c table.rows.items scratch.bounding.items
  pub some : 0 < length scratch.bounding.items

-- new is old after the pivot in column c, and the row that exits for it
pub record IsMade (s : LinearSystem) (c : ℕ) (old new : Table) : Type 0 where
  pub row : ℕ
  pub exits : IsExiting (compared s) c old.rows.items row
  pub pivoted : IsPivoted row c old.rows.items old.gains new.rows.items new.gains
  pub basis_is : new.basis.items ≡ slice_set old.basis.items row c
  pub pivots_are : new.pivots.items ≡ old.pivots.items ++ (row, c) ∷ []

-- in the search for the row that exits for column c, or in the pivot, row i and column k leave the range
pub data MakingLeaves (s : LinearSystem) (c : ℕ) (table : Table) (i k : ℕ) : Type 0 where
  Searching : SearchLeaves (compared s) c table.rows.items i k → MakingLeaves s c table i k
  Pivoting : (l : ℕ) → IsExiting (compared s) c table.rows.items l →
      PivotLeaves l c table.rows.items table.gains i k → MakingLeaves s c table i k

-- the pivot is not made, and new has the pivots that old has
pub record IsNotMade (s : LinearSystem) (c : ℕ) (old new : Table) (i k : ℕ) : Type 0 where
  pub leaves : MakingLeaves s c old i k
  pub pivots_stay : new.pivots.items ≡ old.pivots.items

abbrev pub IsAt : LinearSystem → Table → Tableau → Type 0
IsAt s table t = IsAfter s table.pivots.items table.basis.items table.rows.items table.gains t

-- the table is the opening one
pub record IsOpening (s : LinearSystem) (table : Table) : Type 0 where
  pub rows : RowsStand (opening s) table.rows.items
  pub gains : RowStands (pos 1) (opening s).gains table.gains
  pub basis : table.basis.items ≡ slacks s
  pub none : table.pivots.items ≡ []

-- the table is that of a course by the rule
pub record Reached (rule : Rule) (s : LinearSystem) (table : Table) : Type 0 where
  pub t : Tableau
  pub after : IsAfter s table.pivots.items table.basis.items table.rows.items table.gains t
  pub follows : Follows rule s table.pivots.items

-- the course ends there
pub record ReachedEnd (rule : Rule) (s : LinearSystem) (table : Table) : Type 0 where
  pub reached : Reached rule s table
  pub ends : Ends s table.pivots.items reached.t

-- no row bounds the rule's column there
pub record ReachedRise (rule : Rule) (s : LinearSystem) (table : Table) (c : ℕ) : Type 0 where
  pub reached : Reached rule s table
  pub rises : Rises s table.pivots.items reached.t c
  pub answers : Answers rule s reached.t c

-- each step has its cause, and keeps the limit of pivots
abbrev pub IsStep : Rule → LinearSystem → Option ℕ → Table → Table → Step → Type 0
IsStep rule s most old new step.Pivot =
    Reached rule s new × (length new.pivots.items ≡ length old.pivots.items + 1) × UpTo most (length new.pivots.items)
IsStep rule s most old new step.Best = ReachedEnd rule s new × UpTo most (length new.pivots.items)
IsStep rule s most old new (step.Rises c) = ReachedRise rule s new c × UpTo most (length new.pivots.items)
IsStep rule s most old new (step.Leaves i c) = Refuses rule s new.pivots.items i c × Below most (length new.pivots.items)
IsStep rule s most old new step.Cut = (m : ℕ) × (most ≡ Some m) × IsCut rule s m new.pivots.items

-- the weighted sums of x and z are equal, over all numbers over which they are whole
pub record EqualSums (s : LinearSystem) (x z : List Frac) : Type 0 where
  pub equal : (t u : ℤ) (xs zs : List ℤ) → pos 0 <ℤ t → pos 0 <ℤ u → AreOver t xs x → AreOver u zs z
      → u *ℤ dot s.weights xs ≡ t *ℤ dot s.weights zs

-- unless a number leaves the range, both are best with equal sums, or both say that there is no solution
abbrev pub Agree : LinearSystem → Answer → Answer → Type 0
Agree s (Leaves ps i c) b = Unit {0}
Agree s (Best x y ps) (Best z w qs) = EqualSums s x.items z.items
Agree s (Best x y ps) (NoSolution z qs) = ⊥
Agree s (Best x y ps) (Leaves qs i c) = Unit {0}
Agree s (NoSolution y ps) (Best z w qs) = ⊥
Agree s (NoSolution y ps) (NoSolution z qs) = Unit {0}
Agree s (NoSolution y ps) (Leaves qs i c) = Unit {0}

-- Steps on rows of fractions are steps of a course.
use Rattle.std.specs.Prelude.{ℕ, List, [], ◌∷◌, ◌++◌}
use Rattle.simplex_rows.specs.Entries.{Entries}
use Rattle.linear_rows.specs.Systems.{LinearSystem, IsSystem}
use Rattle.simplex_spec.specs.Tableaux.{Tableau, pivot, compared}
use Rattle.simplex_spec.specs.Refusals.{Refused}
use Rattle.simplex_spec.specs.Courses.{Enters, Course}
use Rattle.simplex.specs.Standing.{TableStands, IsPivoted, PivotLeaves}
use Rattle.simplex.specs.Ties.{IsExiting, SearchLeaves}

-- where rows stand for a course's tableau, a pivot of them that is made, in the row that leaves, is one of
-- the course, and they stand for the tableau after it
abbrev pub StepsAreLawful : Type 0
StepsAreLawful =
    (s : LinearSystem) (pivots : List (ℕ × ℕ)) (t : Tableau) (c : ℕ) (rows : List Entries)
    (gains : Entries) (l : ℕ) (new : List Entries) (new_gains : Entries)
    → IsSystem s → Course s pivots t → TableStands t rows gains → Enters s t c →
    IsExiting (compared s) c rows l → IsPivoted l c rows gains new new_gains
    → Course s (pivots ++ (l, c) ∷ []) (pivot l c t) × TableStands (pivot l c t) new new_gains

-- and where it is not made, the tableau refuses the number that is named
abbrev pub PivotFaultsAreRefused : Type 0
PivotFaultsAreRefused = (s : LinearSystem) (pivots : List (ℕ × ℕ)) (t : Tableau) (c : ℕ) (rows : List Entries) (gains : Entries) (l i k : ℕ)
    → IsSystem s → Course s pivots t → TableStands t rows gains → IsExiting (compared s) c rows l →
    PivotLeaves l c rows gains i k → Refused s t c i k

abbrev pub SearchFaultsAreRefused : Type 0
SearchFaultsAreRefused = (s : LinearSystem) (pivots : List (ℕ × ℕ)) (t : Tableau) (c : ℕ) (rows : List Entries) (gains : Entries) (i k : ℕ)
    → IsSystem s → Course s pivots t → TableStands t rows gains → SearchLeaves (compared s) c rows i k → Refused s t c i k

-- What the tableau's ends tell of the system, and that every course ends.
use Rattle.std.specs.Prelude.{◌≡◌, ℕ, ◌<◌, ◌^◌, List, length, ℤ, ◌*ℤ◌, Option}
use Rattle.linear_rows.specs.Vectors.{dot}
use Rattle.linear_rows.specs.Systems.{LinearSystem, IsSystem, Refutes, ProvesLeast}
use Rattle.simplex_spec.specs.Tableaux.{Tableau, right, solution, dual, ray, Exits}
use Rattle.simplex_spec.specs.Courses.{Course, Ends, Rises, Follows, Answers, Refuses, rule_by}

abbrev pub EndsAreLeast : Type 0
EndsAreLeast =
    (s : LinearSystem) (pivots : List (ℕ × ℕ)) (t : Tableau) → IsSystem s → Ends s pivots t → ProvesLeast s (solution s t) (dual s t) t.over

abbrev pub RisesRefute : Type 0
RisesRefute = (s : LinearSystem) (pivots : List (ℕ × ℕ)) (t : Tableau) (c : ℕ) → IsSystem s → Rises s pivots t c → Refutes s (ray s c t)

-- a course is shorter than the number of the sets of columns before the right side: no basis comes twice
abbrev pub CoursesEnd : Type 0
CoursesEnd = (s : LinearSystem) (pivots : List (ℕ × ℕ)) (t : Tableau) → IsSystem s → Course s pivots t → length pivots < 2 ^ right s

-- at most one row can exit
abbrev pub OneRowExits : Type 0
OneRowExits =
    (s : LinearSystem) (pivots : List (ℕ × ℕ)) (t : Tableau) (c l m : ℕ) → IsSystem s →
    Course s pivots t → Exits s c t l → Exits s c t m → l ≡ m

-- two ends of one system have the same weighted sum
abbrev pub EndsAgree : Type 0
EndsAgree = (s : LinearSystem) (pivots others : List (ℕ × ℕ)) (t u : Tableau) → IsSystem s → Ends s pivots t → Ends s others u
    → u.over *ℤ dot s.weights (solution s t) ≡ t.over *ℤ dot s.weights (solution s u)

-- and no course ends where another rises
abbrev pub EndsOrRises : Type 0
EndsOrRises =
    (s : LinearSystem) (pivots others : List (ℕ × ℕ)) (t u : Tableau) (c : ℕ) → IsSystem s → Ends s pivots t → Rises s others u c → ⊥

-- by a rule that is a function, a system has one end or one rise, after the same pivots, and no refusal
-- beside it
pub record OneCourse : Type 0 where
  pub one_end : (pick : List ℤ → ℤ → Option ℕ) (s : LinearSystem) (pivots others : List (ℕ × ℕ)) (t u : Tableau) → IsSystem s
      → Ends s pivots t → Follows (rule_by pick) s pivots
      → Ends s others u → Follows (rule_by pick) s others
      → (pivots ≡ others) × (t ≡ u)
  pub one_rise : (pick : List ℤ → ℤ → Option ℕ) (s : LinearSystem) (pivots others : List (ℕ × ℕ)) (t u : Tableau) (c e : ℕ) → IsSystem s
      → Rises s pivots t c → Follows (rule_by pick) s pivots → Answers (rule_by pick) s t c
      → Rises s others u e → Follows (rule_by pick) s others → Answers (rule_by pick) s u e
      → (pivots ≡ others) × (t ≡ u) × (c ≡ e)
  pub end_or_refusal : (pick : List ℤ → ℤ → Option ℕ) (s : LinearSystem) (pivots others : List (ℕ × ℕ)) (t : Tableau) (i k : ℕ) → IsSystem s
      → Ends s pivots t → Follows (rule_by pick) s pivots
      → Refuses (rule_by pick) s others i k → ⊥
  pub rise_or_refusal : (pick : List ℤ → ℤ → Option ℕ) (s : LinearSystem)
      (pivots others : List (ℕ × ℕ)) (t : Tableau) (c i k : ℕ) → IsSystem s
      → Rises s pivots t c → Follows (rule_by pick) s pivots → Answers (rule_by pick) s t c
      → Refuses (rule_by pick) s others i k → ⊥

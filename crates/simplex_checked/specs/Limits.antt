-- What a system comes to with a limit on pivots.
use Rattle.std.specs.Prelude.{◌≡◌, ℕ, List, length, Option}
use Rattle.linear_rows.specs.Systems.{LinearSystem}
use Rattle.simplex_spec.specs.Tableaux.{Tableau}
use Rattle.simplex_spec.specs.Courses.{Rule, Ends, Rises, Follows, Answers}
use Rattle.simplex.specs.Solving.{CutsBy, UpTo}
use Rattle.simplex_checked.specs.Answers.{IsAnswer}
use Rattle.simplex_checked.specs.declared.answer.Within.{Within}
use Rattle.simplex_checked.specs.declared.answer.Within.TheVariants.{Answered, Cut}

-- the course by the rule comes to its end with so many pivots: no gain is left, or no row bounds the rule's column
pub data EndsAfter (rule : Rule) (s : LinearSystem) (n : ℕ) : Type 0 where
  AtEnd : (pivots : List (ℕ × ℕ)) (t : Tableau) → Ends s pivots t → Follows rule s pivots → n ≡ length pivots → EndsAfter rule s n
  AtRise : (pivots : List (ℕ × ℕ)) (t : Tableau) (column : ℕ) → Rises s pivots t column → Follows rule s pivots → Answers rule s t column →
      n ≡ length pivots → EndsAfter rule s n

-- an answer has its cause, and its course ends after so many pivots, no more than the limit; what is cut goes on after as many as the limit
abbrev pub IsWithin : Rule → LinearSystem → Option ℕ → Within → Type 0
IsWithin rule s most (Answered answer pivots) = IsAnswer rule s answer × EndsAfter rule s pivots × UpTo most pivots
IsWithin rule s most Cut = CutsBy rule s most

-- it is cut
abbrev pub SaysCut : Within → Type 0
SaysCut (Answered answer pivots) = ⊥
SaysCut Cut = Unit {0}

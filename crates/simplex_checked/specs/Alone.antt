-- What a system comes to, where what proves a solution least is not looked at.
use Rattle.std.specs.Prelude.{◌≡◌, ◌<◌, ℕ, ℤ, pos, List, map, slice_index_or}
use Rattle.linear_rows.specs.Systems.{LinearSystem}
use Rattle.simplex_spec.specs.Tableaux.{Tableau, solution, ray}
use Rattle.simplex_spec.specs.Courses.{Rule, Ends, Rises, Follows, Answers}
use Rattle.simplex_integers.specs.Wholes.{most, ScaleLeaves}
use Rattle.simplex_integers.specs.Reading.{ReadsSolution}
use Rattle.simplex_checked.specs.Answers.{IsAnswer, Stops}
use Rattle.simplex_checked.specs.declared.answer.Answer.{Answer}
use Rattle.simplex_checked.specs.declared.answer.Answer.TheVariants.{Solution, Vector}
use Rattle.simplex_checked.specs.declared.fault.AnswerFault.{AnswerFault}
use Rattle.simplex_checked.specs.declared.fault.AnswerFault.TheVariants as f

-- what is read, over the tableau's number: the solution alone, or the vector
pub data ReadAlone (rule : Rule) (s : LinearSystem) (d : ℤ) (ns : List ℤ) : Type 0 where
  OfSolution : (pivots : List (ℕ × ℕ)) (t : Tableau) → Ends s pivots t → Follows rule s pivots →
      d ≡ t.over → ns ≡ solution s t → ReadAlone rule s d ns
  OfVector : (pivots : List (ℕ × ℕ)) (t : Tableau) (column : ℕ) → Rises s pivots t column →
      Follows rule s pivots → Answers rule s t column →
      d ≡ t.over → ns ≡ ray s column t → ReadAlone rule s d ns

-- x over t is read where the pivots end, and its numbers fit
pub record SolutionFits (rule : Rule) (s : LinearSystem) (t : ℕ) (x : List ℕ) : Type 0 where
  pub solution : ReadsSolution rule s t x
  pub denominator : t < most
  pub numbers : (entry : ℕ) → slice_index_or x entry 0 < most

-- the numbers are natural ones, and are a solution over the denominator; a vector is that of the whole answer
abbrev pub IsAlone : Rule → LinearSystem → Answer → Type 0
IsAlone rule s (Solution denominator numbers) =
    (t : ℕ) × (x : List ℕ) × (denominator ≡ pos t) × (numbers.items ≡ map pos x) × SolutionFits rule s t x
IsAlone rule s (Vector numbers) = IsAnswer rule s (Vector numbers)

-- where a number leaves, and all that is tried before it was fine: no entry of the dual solution does, and none in a check of what is least
abbrev pub StopsAlone : Rule → LinearSystem → AnswerFault → Type 0
StopsAlone rule s (f.Scale entry) = (d : ℤ) × (ns : List ℤ) × ReadAlone rule s d ns × ScaleLeaves d ns entry
StopsAlone rule s (f.Least column) = ⊥
StopsAlone rule s fault = Stops rule s fault

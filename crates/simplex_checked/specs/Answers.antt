-- What a system comes to, in whole numbers that were checked, and where a number leaves 128 bits.
use Rattle.std.specs.Prelude.{◌≡◌, ◌<◌, ℕ, ℤ, pos, List, map}
use Rattle.linear_rows.specs.Systems.{LinearSystem}
use Rattle.farkas_check.specs.Checks.{IsVerdict, refuting, proving_least}
use Rattle.farkas_check.specs.declared.Verdict.TheVariants.{Leaves}
use Rattle.simplex_spec.specs.Courses.{Rule, Refuses}
use Rattle.simplex_integers.specs.Wholes.{most, ScaleLeaves}
use Rattle.simplex_integers.specs.Reading.{ReadsSolution, Read, BothAreFine, ArePassed, VectorIsFine, IsPassed}
use Rattle.simplex_checked.specs.declared.answer.Answer.{Answer}
use Rattle.simplex_checked.specs.declared.answer.Answer.TheVariants.{Solution, Vector}
use Rattle.simplex_checked.specs.declared.fault.AnswerFault.{AnswerFault}
use Rattle.simplex_checked.specs.declared.fault.AnswerFault.TheVariants as f

-- x over t is read where the pivots end, and with the dual numbers, over what serves for both, it passes the check
pub record IsSolution (rule : Rule) (s : LinearSystem) (t : ℕ) (x : List ℕ) : Type 0 where
  pub solution : ReadsSolution rule s t x
  pub fits : t < most
  pub over : ℕ
  pub primal : List ℕ
  pub dual : List ℕ
  pub fine : BothAreFine rule s over primal dual
  pub passed : ArePassed s over primal dual

-- y is read where they rise, and it passes the check
pub record IsVector (rule : Rule) (s : LinearSystem) (y : List ℕ) : Type 0 where
  pub fine : VectorIsFine rule s y
  pub passed : IsPassed s y

-- the numbers are natural ones, and are a solution over the denominator, or a vector
abbrev pub IsAnswer : Rule → LinearSystem → Answer → Type 0
IsAnswer rule s (Solution denominator numbers) =
    (t : ℕ) × (x : List ℕ) × (denominator ≡ pos t) × (numbers.items ≡ map pos x) × IsSolution rule s t x
IsAnswer rule s (Vector numbers) = (y : List ℕ) × (numbers.items ≡ map pos y) × IsVector rule s y

-- where a number leaves, and all that is tried before it was fine
abbrev pub Stops : Rule → LinearSystem → AnswerFault → Type 0
Stops rule s (f.Solve pivots row column) = Refuses rule s pivots.items row column
Stops rule s (f.Scale entry) = (d : ℤ) × (ns : List ℤ) × Read rule s d ns × ScaleLeaves d ns entry
Stops rule s (f.Refute column) = (y : List ℕ) × VectorIsFine rule s y × IsVerdict (refuting s (map pos y)) (Leaves column)
Stops rule s (f.Least column) = (t : ℕ) × (x : List ℕ) × (y : List ℕ) × BothAreFine rule s t x y
    × IsVerdict (proving_least s (map pos x) (map pos y) (pos t)) (Leaves column)
Stops rule s f.NoMemory = Unit {0}

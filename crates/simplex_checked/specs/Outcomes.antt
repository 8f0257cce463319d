-- What solving comes to, before a solution is taken to whole numbers.
use Rattle.std.specs.Prelude.{◌≡◌, ℕ, List, length, Option}
use Rattle.linear_rows.specs.Systems.{LinearSystem}
use Rattle.frac128.specs.declared.Frac.{Frac}
use Rattle.simplex_spec.specs.Courses.{Rule, Refuses}
use Rattle.simplex.specs.Solving.{IsBest, IsRefuted, CutsBy}
use Rattle.simplex_checked.specs.declared.solving.Outcome.{Outcome}
use Rattle.simplex_checked.specs.declared.solving.Outcome.TheVariants.{Solution, Refuted, Cut}
use Rattle.simplex_checked.specs.declared.fault.AnswerFault.{AnswerFault}
use Rattle.simplex_checked.specs.declared.fault.AnswerFault.TheVariants as f
use Rattle.simplex_checked.specs.Wholes.{IsVectorAnswer, RefutingFails}

-- a least solution with the dual one, or the answer that is the vector, after so many pivots; or nothing within the limit
abbrev pub IsOutcome : Rule → LinearSystem → Option ℕ → Outcome → Type 0
IsOutcome rule s most (Solution x dual n) = (pivots : List (ℕ × ℕ)) × IsBest rule s pivots x.items dual.items × (n ≡ length pivots)
IsOutcome rule s most (Refuted answer n) =
    (pivots : List (ℕ × ℕ)) × (y : List Frac) × IsRefuted rule s pivots y × IsVectorAnswer s y answer × (n ≡ length pivots)
IsOutcome rule s most Cut = CutsBy rule s most

-- it is nothing within the limit
abbrev pub IsNone : Outcome → Type 0
IsNone (Solution x dual n) = ⊥
IsNone (Refuted answer n) = ⊥
IsNone Cut = Unit {0}

-- a number leaves in solving, or where the vector is taken to whole numbers and checked
abbrev pub NoOutcome : Rule → LinearSystem → AnswerFault → Type 0
NoOutcome rule s (f.Solve pivots row column) = Refuses rule s pivots.items row column
NoOutcome rule s f.NoMemory = Unit {0}
NoOutcome rule s fault = (pivots : List (ℕ × ℕ)) × (y : List Frac) × IsRefuted rule s pivots y × RefutingFails s y fault

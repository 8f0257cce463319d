-- What analyses find within a budget of pivots.
use Rattle.std.specs.Prelude.{◌≤◌, ◌-◌, ℕ, Bool, true, false, Option, Some, None}
use Rattle.raml_syntax.specs.Tree.{Prog}
use Rattle.annot_types.specs.Program.{Program}
use Rattle.bound_infer.specs.Pivots.{IsGivenUp}
use Rattle.explain_degrees.specs.Degrees.{analysis_at, AreLeast}
use Rattle.explain_degrees.specs.declared.least.LeastBounds.{LeastBounds}
use Rattle.explain_degrees.specs.declared.least.LeastWithin.{LeastWithin}

-- The analysis at this degree is given up; of those at lower degrees it is said what they find.
pub record StopsAt (P : Prog) (N : Program) (d : ℕ) (budget : Option ℕ) (found : LeastBounds) : Type 0 where
  pub least : AreLeast P N (d - 1) found
  pub given_up : IsGivenUp (analysis_at N d) budget

-- what the analyses up to this degree find, or those below the first that is given up
abbrev pub IsUpTo : Prog → Program → ℕ → Option ℕ → LeastBounds → Option ℕ → Type 0
IsUpTo P N most budget found None = AreLeast P N most found
IsUpTo P N most budget found (Some d) = (1 ≤ d) × (d ≤ most) × StopsAt P N d budget found

abbrev pub AreLeastWithin : Prog → Program → ℕ → Option ℕ → LeastWithin → Type 0
AreLeastWithin P N most budget within = IsUpTo P N most budget within.found within.given_up

-- the degree is added, or its analysis is given up
abbrev pub IsAdded : Prog → Program → ℕ → Option ℕ → LeastBounds → Bool → Type 0
IsAdded P N d budget found true = AreLeast P N d found
IsAdded P N d budget found false = StopsAt P N d budget found

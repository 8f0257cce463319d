-- What is said of functions that have bounds, where another degree is asked for.
use Rattle.std.specs.Prelude.{ℕ, ◌+◌, nat_eq, nat_lt, List, [], ◌∷◌, ◌++◌, Bool, false, cond, ◌&&◌, ◌||◌}
use Rattle.cost_free.specs.declared.task.Meter.TheVariants.{Ticks, Cells, Work}
use Rattle.explain_degrees.specs.declared.finding.Finding.{Finding}
use Rattle.explain_degrees.specs.declared.finding.Finding.TheVariants as finding
use Rattle.explain_degrees.specs.declared.finding.Findings.{Findings}
use Rattle.explain_degrees.specs.declared.least.RefusedDegree.{RefusedDegree}
use Rattle.explain_lines.specs.Mended.{Line}

pub data Note : Type 0 where
  -- the line has a bound from this degree on, which is higher than the one that is asked for
  FromDegree : Line → ℕ → Note
  -- it has one of this degree, which is lower, and a limit refuses the analysis at the degree that is asked for
  AtLowerDegreeAlone : Line → ℕ → Note

-- the analysis at the degree was refused
abbrev pub is_refused : ℕ → List RefusedDegree → Bool
is_refused degree [] = false
is_refused degree (r ∷ rs) = nat_eq r.degree degree || is_refused degree rs

-- what is said of a line that has a bound of degree d, where the degree that is asked for is refused or not
abbrev pub note_of_bound : ℕ → Bool → Line → ℕ → List Note
note_of_bound asked refused line d =
    cond (nat_lt asked d) (FromDegree line d ∷ []) (cond (nat_lt d asked && refused) (AtLowerDegreeAlone line d ∷ []) [])

abbrev pub note_of : ℕ → Bool → Line → Finding → List Note
note_of asked refused line (finding.Bound d poly) = note_of_bound asked refused line d
note_of asked refused line _ = []

abbrev pub notes_at : ℕ → Bool → ℕ → Findings → List Note
notes_at asked refused f findings =
    note_of asked refused (record { fun = f; meter = Ticks }) findings.ticks
    ++ (note_of asked refused (record { fun = f; meter = Cells }) findings.cells
    ++ note_of asked refused (record { fun = f; meter = Work }) findings.work)

-- of the functions from a place on
abbrev pub notes_from : ℕ → Bool → ℕ → List Findings → List Note
notes_from asked refused f [] = []
notes_from asked refused f (findings ∷ rest) = notes_at asked refused f findings ++ notes_from asked refused (f + 1) rest

-- of all functions
abbrev pub notes : ℕ → List RefusedDegree → List Findings → List Note
notes asked refused found = notes_from asked (is_refused asked refused) 0 found

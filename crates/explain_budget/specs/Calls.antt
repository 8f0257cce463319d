-- What a call of `explain budget` tells.
use Rattle.std.specs.Prelude.{◌≡◌, ◌≤◌, ◌⊎◌, ℕ, Bool, Option, Some, None, [], length}
use Rattle.raml_syntax.specs.Tree.{Text, Prog}
use Rattle.call_groups.specs.Groups.{Grouping, IsGrouping}
use Rattle.rules_soundness_laws.specs.Laws.{normal_of}
use Rattle.explain_check.specs.Stores.{Store, Holds, Unread}
use Rattle.explain_check.specs.Checks.{HoldsProgram, LacksProgram, most_bytes}
use Rattle.explain_calls.specs.Calls.{names_for}
use Rattle.explain_budget.specs.Degrees.{Asking, TellsFrom}
use Rattle.explain_budget.specs.declared.end.BudgetEnd.{BudgetEnd}
use Rattle.explain_budget.specs.declared.end.BudgetEnd.TheVariants as e

-- the degree that is tried first, and how many are: the one that is told, or 4 and all lower ones
abbrev pub first_degree : Option ℕ → ℕ
first_degree None = 4
first_degree (Some d) = d

abbrev pub tries : Option ℕ → ℕ
tries None = 4
tries (Some d) = 1

-- a degree that is told is from 1 to 4
abbrev pub IsInRange : Option ℕ → Type 0
IsInRange None = Unit {0}
IsInRange (Some d) = (1 ≤ d) × (d ≤ 4)

-- what is told of a program
abbrev pub ProgramIs : Prog → Option ℕ → Asking → BudgetEnd → Text → Text → Type 0
ProgramIs P degree asking end text report =
    (groups : Grouping) × IsGrouping P groups
    × TellsFrom P (normal_of P groups.list) (names_for P groups) asking
    (first_degree degree) (tries degree) (first_degree degree) end text report

-- what a call asks for
pub record Words : Type 0 where
  pub file : Text
  pub bounds : Text
  pub degree : Option ℕ
  pub width : Option ℕ
  pub json : Bool

abbrev pub words_of : Text → Text → Option ℕ → Option ℕ → Bool → Words
words_of file bounds degree width json = record { file = file; bounds = bounds; degree = degree; width = width; json = json }

abbrev pub asking_of : Words → Text → Asking
asking_of words bytes = record { name = words.bounds; bytes = bytes; width = words.width; json = words.json }

-- what is told of a typed program: that the file of bounds is not read, or what it keeps of it
abbrev pub BoundsAre : Store → Prog → Text → Option ℕ → (Text → Asking) → BudgetEnd → Text → Text → Type 0
BoundsAre store P bounds degree asking end text report =
    ((end ≡ e.Refused) × (text ≡ []) × Unread store most_bytes bounds report)
    ⊎ ((bytes : Text) × Holds store bounds bytes × (length bytes ≤ most_bytes) × ProgramIs P degree (asking bytes) end text report)

-- what is told of a call
abbrev pub CallIs : Store → Words → BudgetEnd → Text → Text → Type 0
CallIs store words end text report =
    ((end ≡ e.Refused) × (text ≡ []) × LacksProgram store words.file report)
    ⊎ ((P : Prog) × HoldsProgram store words.file P
    × BoundsAre store P words.bounds words.degree (asking_of words) end text report)

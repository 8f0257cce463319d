-- The bounds of a program that was tried, as `explain bounds` tells them.
use Rattle.std.specs.Prelude.{◌≡◌, ℕ, List, [], ◌∷◌, ◌++◌, Option, Some, option_map, slice_get, codes}
use Rattle.std.specs.Borrow.{Bor}
use Rattle.raml_syntax.specs.Tree.{Text, Function, Prog}
use Rattle.raml_syntax.specs.Types.{types_of}
use Rattle.raml_syntax.specs.Read.{function_of}
use Rattle.raml_syntax.specs.declared.program.Fun.{Fun}
use Rattle.cost_free.specs.declared.task.Meter.{Meter}
use Rattle.cost_free.specs.declared.task.Meter.TheVariants.{Ticks, Cells, Work}
use Rattle.explain_degrees.specs.Degrees.{finding_of}
use Rattle.explain_degrees.specs.declared.finding.Findings.{Findings}
use Rattle.explain_lines.specs.Mended.{Line}
use Rattle.explain_bounds.specs.Told.{Nothing}
use Rattle.explain_bounds.specs.Lines.{IsLine}
use Rattle.explain_bounds.specs.Written.{AllCanBeTold}

abbrev pub line_for : Meter → Text → Text → Text → Text
line_for Ticks ticks cells work = ticks
line_for Cells ticks cells work = cells
line_for Work ticks cells work = work

-- the findings of all functions can be told
abbrev pub AllCanBeToldOf : Prog → List Findings → Type 0
AllCanBeToldOf P found =
    (f : ℕ) (g : Function) (x : Findings) → slice_get P f ≡ Some g → slice_get found f ≡ Some x → AllCanBeTold (types_of g) x

-- of a function that is there, what was found of the meter, in a line
abbrev pub IsOf : Prog → Meter → Option Function → Option Findings → Text → Type 0
IsOf P meter (Some g) (Some x) part = (told : Text) × IsLine P g Nothing meter (finding_of x meter) told × (part ≡ told ++ codes "\n")
IsOf P meter _ _ part = part ≡ []

abbrev pub IsBoundLine : Prog → List Findings → Line → Text → Type 0
IsBoundLine P found line part = IsOf P line.meter (slice_get P line.fun) (slice_get found line.fun) part

abbrev pub AreBoundLines : Prog → List Findings → List Line → Text → Type 0
AreBoundLines P found [] part = part ≡ []
AreBoundLines P found (line ∷ lines) part =
    (first : Text) × (others : Text) × IsBoundLine P found line first × AreBoundLines P found lines others × (part ≡ first ++ others)

-- ---- what the code has

abbrev pub function_in : Option (Bor Fun) → Option Function
function_in = option_map (λ (g : Bor Fun). function_of g.now)

abbrev pub lent : Option (Bor Findings) → Option Findings
lent = option_map (λ (x : Bor Findings). x.now)

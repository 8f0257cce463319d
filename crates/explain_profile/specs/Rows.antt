-- The table of a profile: a row for each line.
use Rattle.std.specs.Prelude.{◌≡◌, ℕ, zero, suc, ◌*◌, ◌-◌, ◌^◌, nat_le, Bool, true, false, cond, Option, Some, None, is_some}
use Rattle.std.specs.Prelude.{List, [], ◌∷◌, ◌++◌, map}
use Rattle.std.specs.Prelude.{IsPermutation, codes, decimal, string_bytes}
use Rattle.std.specs.List.{Contains}
use Rattle.std.specs.List.Sorted.{IsNonDecreasingBy}
use Rattle.std.specs.Rc.{rc_value}
use Rattle.raml_syntax.specs.Tree.{Text, Type', Function}
use Rattle.raml_syntax.specs.Types.{types_of}
use Rattle.explain_places.specs.Places.{line}
use Rattle.explain_algebra.specs.Algebra.{legend_text, size_names}
use Rattle.explain_algebra.specs.Laws.{are_shallow}
use Rattle.explain_bounds.specs.Lines.{names_of}
use Rattle.explain_regions.specs.Lines as l
use Rattle.explain_regions.specs.Read.{plain_line}
use Rattle.explain_profile.specs.Runs.{Case, Runs, AreRunsAt}
use Rattle.explain_profile.specs.declared.rows.Row.{Row}
use Rattle.explain_profile.specs.declared.runs.Runs.TheVariants as r

-- ---- rows

abbrev pub line_of : Row → l.Line
line_of row = plain_line row.line

abbrev pub runs_of : Row → Runs
runs_of row = rc_value row.runs

abbrev pub all_lines : List Row → List l.Line
all_lines = map line_of

-- an analysis is made
abbrev pub IsAnalysed : Runs → Type 0
IsAnalysed r.NotAnalysed = ⊥
IsAnalysed other = Unit {0}

-- a line of these is analysed
pub record HasAnalysed (rows : List Row) : Type 0 where
  pub row : Row
  pub there : Contains rows row
  pub is : IsAnalysed (runs_of row)

-- the row says how often the region of its line is run at most
abbrev pub IsCounted : Case → Row → Type 0
IsCounted case row = AreRunsAt case row.line.region.0 (runs_of row)

-- the number of runs at sizes that are given
abbrev pub number_at : Runs → Option ℕ
number_at (r.AtMost sum legend at) = at
number_at r.NoBound = None
number_at r.NotAnalysed = None

-- what so many runs cost, where it fits 128 bits
abbrev pub in_all : Option ℕ → ℕ → Option ℕ
in_all None cost = None
in_all (Some n) cost = cond (nat_le (n * cost) (2 ^ 128 - 1)) (Some (n * cost)) None

-- the work of all runs of a line
abbrev pub work_in_all : Row → Option ℕ
work_in_all row = in_all (number_at (runs_of row)) (line_of row).work

-- ---- their order

-- Less is what comes first: what is not known, and then what costs most.
abbrev pub rank : Option ℕ → ℕ
rank None = 0
rank (Some work) = (2 ^ 128 - 1) - work

-- the dearest first
pub record AreDearestFirst (found rows : List Row) : Type 0 where
  pub same : IsPermutation found rows
  pub order : IsNonDecreasingBy (λ row. rank (work_in_all row)) rows

-- as they are found, or at sizes the dearest first
abbrev pub AreArranged : Bool → List Row → List Row → Type 0
AreArranged false found rows = rows ≡ found
AreArranged true found rows = AreDearestFirst found rows

-- ---- their texts

-- how often a line is run at most
abbrev pub runs_text : Runs → Text
runs_text (r.AtMost sum legend at) = string_bytes sum
runs_text r.NoBound = codes "no bound"
runs_text r.NotAnalysed = codes "not analysed"

-- what stands above the cells of lines, where these words give sizes
abbrev pub heading : Option Text → List Text
heading None = codes "line" ∷ codes "runs at most" ∷ codes "ticks" ∷ codes "cells" ∷ codes "work" ∷ []
heading (Some words) =
    codes "line" ∷ codes "runs at most" ∷ (codes "at " ++ words) ∷ codes "ticks" ∷ codes "cells" ∷ codes "work"
    ∷ codes "work in all" ∷ []

abbrev pub number_text : Option ℕ → Text
number_text None = codes "-"
number_text (Some n) = decimal n

-- The cells of a line: its number, how often it is run, and what one run costs in ticks, cells and work. Where sizes are given, how often
-- it is run there stands behind how often it is run, and the work of all these runs at the end.
abbrev pub cells_of : Bool → ℕ → l.Line → Runs → List Text
cells_of false number x runs =
    decimal number ∷ runs_text runs ∷ decimal x.ticks ∷ decimal x.cells ∷ decimal x.work ∷ []
cells_of true number x runs =
    decimal number ∷ runs_text runs ∷ number_text (number_at runs) ∷ decimal x.ticks ∷ decimal x.cells ∷ decimal x.work
    ∷ number_text (in_all (number_at runs) x.work) ∷ []

abbrev pub row_cells : Case → Row → List Text
row_cells case row = cells_of (is_some case.sizes) (line case.source row.line.at.0) (line_of row) (runs_of row)

abbrev pub spaces : ℕ → Text
spaces zero = []
spaces (suc n) = 0x20 ∷ spaces n

-- cells with spaces around each, and behind them a text of the source
abbrev pub AreLaidOut : List Text → Text → Type 0
AreLaidOut [] part = (shown : Text) × (part ≡ shown ++ codes "\n")
AreLaidOut (cell ∷ cells) part =
    (before : ℕ) × (behind : ℕ) × (others : Text) × AreLaidOut cells others × (part ≡ spaces before ++ (cell ++ (spaces behind ++ others)))

-- the rows, one below the other
abbrev pub AreShown : Case → List Row → Text → Type 0
AreShown case [] text = text ≡ []
AreShown case (row ∷ rows) text =
    (first : Text) × (others : Text) × AreLaidOut (row_cells case row) first × AreShown case rows others × (text ≡ first ++ others)

-- a line, where something has to be said
abbrev pub line_with : Text → Text
line_with [] = []
line_with (c ∷ text) = (c ∷ text) ++ codes "\n"

-- what the names of sizes mean, of parameters of these types and with these names
abbrev pub sizes_meaning : List Type' → List Text → Text
sizes_meaning As names = cond (are_shallow As) (legend_text (size_names names As) names) []

abbrev pub meaning : Function → Text
meaning g = sizes_meaning (types_of g) (names_of g)

-- what stands above rows, where words give sizes; the rows; and what the names of sizes mean
pub record IsTable (case : Case) (words : Option Text) (g : Function) (rows : List Row) (text : Text) : Type 0 where
  pub above : Text
  pub shown : Text
  pub headed : AreLaidOut (heading words) above
  pub are : AreShown case rows shown
  pub is : text ≡ above ++ (shown ++ line_with (meaning g))

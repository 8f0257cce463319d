-- The text of `explain bounds`.
use Rattle.std.specs.Prelude.{◌≡◌, ℕ, Bool, true, false, Option, Some, None, List, [], ◌∷◌, ◌++◌, Result, Ok, Err, codes, decimal}
use Rattle.raml_syntax.specs.Tree.{Text, Type', Function, Prog}
use Rattle.explain_at.specs.Asked.{Fault}
use Rattle.explain_at.specs.Read.{names_and_types}
use Rattle.explain_text.specs.Wrapped.{break_of, IsWrapped}
use Rattle.explain_degrees.specs.declared.finding.Findings.{Findings}
use Rattle.explain_degrees.specs.declared.least.RefusedDegree.{RefusedDegree}
use Rattle.explain_bounds.specs.Told.{Told, Nothing}
use Rattle.explain_bounds.specs.Lines.{AreLines}
use Rattle.explain_bounds.specs.Objects.{AreObjects}
use Rattle.refusal_text.specs.declared.task.Analysed.TheVariants.{Program}
use Rattle.refusals.specs.Line.{Names, course_line}
use Rattle.explain_calls.specs.Sizes.{is_asked}

-- a line as it is shown: broken where there is a width, four columns in
abbrev pub IsShown : Option ℕ → Text → Text → Type 0
IsShown None line text = text ≡ line
IsShown (Some width) line text = IsWrapped (break_of 4) line text

-- lines, each with a newline behind it
abbrev pub AreShown : Option ℕ → List Text → Text → Type 0
AreShown width [] text = text ≡ []
AreShown width (line ∷ lines) text =
    (first : Text) × (rest : Text) × IsShown width line first × AreShown width lines rest × (text ≡ first ++ (codes "\n" ++ rest))

-- what is told behind bounds; nothing where the sizes that are given are not the function's
abbrev pub told_or_nothing : Result Told Fault → Told
told_or_nothing (Ok told) = told
told_or_nothing (Err fault) = Nothing

-- lines, of this width where there is one, or objects of JSON
pub data Layout : Type 0 where
  Lines : Option ℕ → Layout
  Objects : Layout

-- how bounds are shown: of which function, or of all; what is told behind them; and the layout
pub record Showing : Type 0 where
  pub name : Option Text
  pub fit : List (Text × Type') → Result Told Fault
  pub layout : Layout

-- what is told of a function, laid out
abbrev pub IsLaidOut : Layout → Prog → Function → Told → Findings → Text → Type 0
IsLaidOut (Lines width) P g told found text = (lines : List Text) × AreLines P g told found lines × AreShown width lines text
IsLaidOut Objects P g told found text = AreObjects P g told found text

-- the text of a function, or nothing where it is not asked for
abbrev pub IsPart : Prog → Showing → Bool → Function → Findings → Text → Type 0
IsPart P showing true g found text = IsLaidOut showing.layout P g (told_or_nothing (showing.fit (names_and_types g.params))) found text
IsPart P showing false g found text = text ≡ []

-- the texts of functions, in order
abbrev pub AreParts : Prog → Showing → List Function → List Findings → Text → Type 0
AreParts P showing (g ∷ gs) (found ∷ more) text =
    (first : Text) × (rest : Text) × IsPart P showing (is_asked showing.name g) g found first × AreParts P showing gs more rest
    × (text ≡ first ++ rest)
AreParts P showing gs more text = text ≡ []

-- explain: degree D: and the line of `raml`
abbrev pub note : Names → RefusedDegree → Text
note names refused = codes "explain: degree " ++ (decimal refused.degree ++ (codes ": " ++ course_line Program names refused.fault))

-- the degrees whose analyses are refused
abbrev pub notes : Names → List RefusedDegree → Text
notes names [] = []
notes names (refused ∷ more) = note names refused ++ notes names more

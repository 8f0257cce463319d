-- What is found of a function, in few words: the bounds of `explain bounds`, without what the names in them mean.
use Rattle.std.specs.Prelude.{◌≡◌, [], ◌∷◌, ◌++◌, codes}
use Rattle.raml_syntax.specs.Tree.{Text, Function}
use Rattle.raml_syntax.specs.Types.{types_of}
use Rattle.base_poly.specs.declared.tuple.Poly.{Poly}
use Rattle.cost_free.specs.declared.task.Meter.{Meter}
use Rattle.cost_free.specs.declared.task.Meter.TheVariants.{Ticks, Cells, Work}
use Rattle.report_text.specs.Names.{meter_text}
use Rattle.explain_reading.specs.Reading.{IsReading}
use Rattle.explain_degrees.specs.declared.finding.Finding.{Finding}
use Rattle.explain_degrees.specs.declared.finding.Finding.TheVariants as finding
use Rattle.explain_degrees.specs.declared.finding.Findings.{Findings}
use Rattle.explain_bounds.specs.Lines.{at_most, names_of, no_bound}

-- ` ≤ ` and the bound in algebra, as `explain bounds` has it
pub record IsSum (g : Function) (poly : Poly) (text : Text) : Type 0 where
  pub sum : Text
  pub legend : Text
  pub reading : IsReading (types_of g) (names_of g) poly sum legend
  pub is : text ≡ at_most ++ sum

-- what a finding tells
abbrev pub TellsBriefly : Function → Finding → Text → Type 0
TellsBriefly g (finding.Bound d poly) text = IsSum g poly text
TellsBriefly g (finding.NoBound d) text = text ≡ no_bound d
TellsBriefly g (finding.Calls d callee) text = text ≡ no_bound d
TellsBriefly g finding.Refused text = text ≡ codes " not analysed"

-- it with the name of the meter before it
pub record IsBriefOf (g : Function) (meter : Meter) (found : Finding) (text : Text) : Type 0 where
  pub told : Text
  pub tells : TellsBriefly g found told
  pub is : text ≡ meter_text meter ++ told

-- ` · `
abbrev pub dot : Text
dot = 0x20 ∷ 0xc2 ∷ 0xb7 ∷ 0x20 ∷ []

-- those of ticks, of cells and of work
pub record IsBrief (g : Function) (found : Findings) (text : Text) : Type 0 where
  pub ticks : Text
  pub cells : Text
  pub work : Text
  pub of_ticks : IsBriefOf g Ticks found.ticks ticks
  pub of_cells : IsBriefOf g Cells found.cells cells
  pub of_work : IsBriefOf g Work found.work work
  pub is : text ≡ (((ticks ++ dot) ++ cells) ++ dot) ++ work

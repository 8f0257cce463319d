-- The lines of `explain bounds`: for each function and meter its bound in algebra.
use Rattle.std.specs.Prelude.{◌≡◌, ℕ, List, [], ◌∷◌, ◌++◌, map, codes, decimal}
use Rattle.raml_syntax.specs.Tree.{Text, Parameter, Function, Prog}
use Rattle.raml_syntax.specs.Types.{types_of}
use Rattle.base_poly.specs.declared.tuple.Poly.{Poly}
use Rattle.cost_free.specs.declared.task.Meter.{Meter}
use Rattle.cost_free.specs.declared.task.Meter.TheVariants.{Ticks, Cells, Work}
use Rattle.report_text.specs.Names.{meter_text, name_at}
use Rattle.explain_at.specs.Asked.{all_names}
use Rattle.explain_at.specs.Read.{names_and_types}
use Rattle.explain_reading.specs.Reading.{IsReading}
use Rattle.explain_degrees.specs.declared.finding.Finding.{Finding}
use Rattle.explain_degrees.specs.declared.finding.Finding.TheVariants as finding
use Rattle.explain_degrees.specs.declared.finding.Findings.{Findings}
use Rattle.explain_bounds.specs.Told.{Told, IsTail}

-- the names of a function's parameters
abbrev pub names_of : Function → List Text
names_of g = map (λ (p : Parameter). p.name) g.params

-- ` ≤ `
abbrev pub at_most : Text
at_most = 0x20 ∷ 0xe2 ∷ 0x89 ∷ 0xa4 ∷ 0x20 ∷ []

-- what the names mean, behind three spaces, where something has to be said
abbrev pub legend_behind : Text → Text
legend_behind [] = []
legend_behind (c ∷ legend) = codes "   " ++ (c ∷ legend)

-- what a bound tells of a function and a meter, behind both names: the sum, what is told behind it, and what the names in it mean
pub record TellsBound (g : Function) (told : Told) (meter : Meter) (poly : Poly) (text : Text) : Type 0 where
  pub sum : Text
  pub tail : Text
  pub legend : Text
  pub reading : IsReading (types_of g) (names_of g) poly sum legend
  pub behind : IsTail told (all_names (names_and_types g.params)) meter poly tail
  pub is : text ≡ at_most ++ (sum ++ (tail ++ legend_behind legend))

abbrev pub no_bound : ℕ → Text
no_bound d = codes " no bound up to degree " ++ decimal d

abbrev pub calls_unbounded : ℕ → Text → Text
calls_unbounded d callee = no_bound d ++ (codes ": calls " ++ (callee ++ codes ", which has none"))

-- what a finding tells
abbrev pub Tells : Prog → Function → Told → Meter → Finding → Text → Type 0
Tells P g told meter (finding.Bound d poly) text = TellsBound g told meter poly text
Tells P g told meter (finding.NoBound d) text = text ≡ no_bound d
Tells P g told meter (finding.Calls d callee) text = text ≡ calls_unbounded d (name_at P callee.0)
Tells P g told meter finding.Refused text = text ≡ codes " not analysed"

-- the line of a function and a meter
pub record IsLine (P : Prog) (g : Function) (told : Told) (meter : Meter) (found : Finding) (line : Text) : Type 0 where
  pub text : Text
  pub tells : Tells P g told meter found text
  pub is : line ≡ g.name ++ (codes " " ++ (meter_text meter ++ text))

-- those of a function: of ticks, of cells and of work
pub record AreLines (P : Prog) (g : Function) (told : Told) (found : Findings) (lines : List Text) : Type 0 where
  pub ticks : Text
  pub cells : Text
  pub work : Text
  pub of_ticks : IsLine P g told Ticks found.ticks ticks
  pub of_cells : IsLine P g told Cells found.cells cells
  pub of_work : IsLine P g told Work found.work work
  pub are : lines ≡ ticks ∷ cells ∷ work ∷ []

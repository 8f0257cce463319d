-- What a sentence begins with: that a function has no bound, and of which meters.
use Rattle.std.specs.Prelude.{ℕ, List, [], ◌++◌, Bool, true, false, Option, Some, None, slice_get, codes}
use Rattle.raml_syntax.specs.Tree.{Text, Prog}
use Rattle.report_text.specs.Names.{name_at}
use Rattle.explain_degrees.specs.declared.finding.Findings.{Findings}
use Rattle.explain_lines.specs.Lines.{is_unbounded}

abbrev pub head : Text → Text → Text
head name meters = codes "`" ++ (name ++ (codes "` lacks a bound" ++ (meters ++ codes ": ")))

-- those of ticks, of cells and of work of which there is none, unless that are all three
abbrev pub of_meters : Bool → Bool → Bool → Text
of_meters true true true = []
of_meters true true false = codes " of ticks and cells"
of_meters true false true = codes " of ticks and work"
of_meters true false false = codes " of ticks"
of_meters false true true = codes " of cells and work"
of_meters false true false = codes " of cells"
of_meters false false true = codes " of work"
of_meters false false false = []

abbrev pub lacking_meters : Option Findings → Text
lacking_meters None = []
lacking_meters (Some findings) = of_meters (is_unbounded findings.ticks) (is_unbounded findings.cells) (is_unbounded findings.work)

-- of the first sentence on a function, where analyses found this of all functions
abbrev pub first_head : Prog → List Findings → ℕ → Text
first_head P found f = head (name_at P f) (lacking_meters (slice_get found f))

-- of the others
abbrev pub next_head : Prog → ℕ → Text
next_head P f = head (name_at P f) []

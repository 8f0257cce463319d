-- What the code's analysed programs are as plain data.
use Rattle.std.specs.Prelude.{◌≡◌, ℕ, List, Some, slice_get}
use Rattle.raml_syntax.specs.Tree.{Function, Prog}
use Rattle.raml_syntax.specs.Types.{types_of}
use Rattle.raml_syntax.specs.Read.{program_of}
use Rattle.lsp_language.specs.declared.insight.Hover.{Hover}
use Rattle.explain_degrees.specs.declared.finding.Findings.{Findings}
use Rattle.explain_bounds.specs.Written.{AllCanBeTold}
use Rattle.explain_insight.specs.Hovers.{IsHover}
use Rattle.explain_insight.specs.declared.analysed.Analysed.{Analysed}

abbrev pub IsHoverIn : Analysed → Hover → Type 0
IsHoverIn analysed hover = IsHover analysed.source.now (program_of analysed.program.now) analysed.findings.now hover

-- what is found of each function can be told
abbrev pub CanAllBeTold : Prog → List Findings → Type 0
CanAllBeTold P all =
    (f : ℕ) (g : Function) (found : Findings) → slice_get P f ≡ Some g → slice_get all f ≡ Some found → AllCanBeTold (types_of g) found

abbrev pub CanBeToldIn : Analysed → Type 0
CanBeToldIn analysed = CanAllBeTold (program_of analysed.program.now) analysed.findings.now

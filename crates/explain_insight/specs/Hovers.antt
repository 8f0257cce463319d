-- What is told where the pointer rests on a name.
use Rattle.std.specs.Prelude.{◌≡◌, ℕ, ◌+◌, ◌⊎◌, List, [], ◌∷◌, ◌++◌, Some, length, take, drop, slice_get, codes, string_bytes}
use Rattle.raml_syntax.specs.Tree.{Text, Parameter, Function, Prog}
use Rattle.raml_syntax.specs.Place.{place_of}
use Rattle.lsp_language.specs.declared.insight.Hover.{Hover}
use Rattle.lsp_language.specs.declared.span.Span.{Span}
use Rattle.explain_algebra.specs.Algebra.{joined}
use Rattle.explain_at.specs.Asked.{names_of}
use Rattle.explain_bounds.specs.Lines.{AreLines}
use Rattle.explain_bounds.specs.Told.{Nothing}
use Rattle.explain_degrees.specs.declared.finding.Findings.{Findings}
use Rattle.explain_insight.specs.Fenced.{fenced}
use Rattle.explain_insight.specs.Header.{header, parameter_text}

-- ---- functions

-- the function's header, and the lines of `explain bounds`
pub record IsFunctionText (P : Prog) (g : Function) (found : Findings) (text : Text) : Type 0 where
  pub bounds : List Text
  pub are : AreLines P g Nothing found bounds
  pub is : text ≡ fenced (header g ∷ bounds)

-- what stands in a part of the source
abbrev pub part_text : Text → Span → Text
part_text source span = drop span.start (take span.end source)

-- it is told on a name of the function
pub record IsFunctionHover (source : Text) (P : Prog) (all : List Findings) (hover : Hover) : Type 0 where
  pub place : ℕ
  pub function : Function
  pub found : Findings
  pub named : place_of (part_text source hover.span) P ≡ Some place
  pub of_program : slice_get P place ≡ Some function
  pub of_findings : slice_get all place ≡ Some found
  pub text : IsFunctionText P function found (string_bytes hover.text)

-- ---- parameters

-- the names of its sizes, as `--at` takes them
abbrev pub sizes_text : List Text → Text
sizes_text [] = codes "no size"
sizes_text (name ∷ names) = codes "sizes: " ++ joined (codes ", ") (name ∷ names)

-- its type and the names of its sizes, on its name
pub record IsOnParameter (p : Parameter) (hover : Hover) : Type 0 where
  pub start : hover.span.start ≡ p.at
  pub end : hover.span.end ≡ p.at + length p.name
  pub text : string_bytes hover.text ≡ fenced (parameter_text p ∷ sizes_text (names_of p.name p.type) ∷ [])

-- it is told of a parameter of some function
pub record IsParameterHover (P : Prog) (hover : Hover) : Type 0 where
  pub place : ℕ
  pub function : Function
  pub index : ℕ
  pub parameter : Parameter
  pub of_program : slice_get P place ≡ Some function
  pub of_function : slice_get function.params index ≡ Some parameter
  pub is : IsOnParameter parameter hover

abbrev pub IsHover : Text → Prog → List Findings → Hover → Type 0
IsHover source P all hover = IsFunctionHover source P all hover ⊎ IsParameterHover P hover

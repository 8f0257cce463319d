-- What is told of the first fault of a source.
use Rattle.std.specs.Prelude.{◌≡◌, ◌≤◌, ℕ, max, Option, Some, List, [], ◌∷◌, length, option_map, string_bytes}
use Rattle.std.specs.List.{All}
use Rattle.raml_syntax.specs.Tree.{Text}
use Rattle.lsp_language.specs.declared.insight.Diagnostic.{Diagnostic}
use Rattle.lsp_language.specs.declared.insight.Insight.{Insight}
use Rattle.lsp_language.specs.declared.insight.Severity.TheVariants.{Error}
use Rattle.lsp_language.specs.declared.span.Span.{Span}
use Rattle.explain_faults.specs.declared.fault.SourceFault.{SourceFault}
use Rattle.explain_faults.specs.Faults.{place, code_of}
use Rattle.explain_faults.specs.Repairs.{IsRepair}

-- a part that begins at this byte, and ends in the text
pub record IsPart (source : Text) (at : Option ℕ) (span : Span) : Type 0 where
  pub start : at ≡ Some span.start
  pub order : span.start ≤ span.end
  pub within : span.end ≤ max span.start (length source)

-- the fault at its place, with its code
pub record IsDiagnostic (source : Text) (fault : SourceFault) (d : Diagnostic) : Type 0 where
  pub part : IsPart source (place fault) d.span
  pub severity : d.severity ≡ Error
  pub code : option_map string_bytes d.code ≡ Some (code_of fault)

-- the fault alone, and changes that mend it
pub record IsToldFault (source : Text) (fault : SourceFault) (insight : Insight) : Type 0 where
  pub diagnostic : Diagnostic
  pub one : insight.diagnostics.items ≡ diagnostic ∷ []
  pub is : IsDiagnostic source fault diagnostic
  pub repairs : All (IsRepair source fault) insight.actions.items
  pub no_hovers : insight.hovers.items ≡ []
  pub no_lenses : insight.lenses.items ≡ []
  pub no_hints : insight.hints.items ≡ []

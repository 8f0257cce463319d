-- What is added to what an editor knows of a program: why groups of its functions have no bound.
use Rattle.std.specs.Prelude.{◌≡◌, ℕ, List, [], ◌++◌}
use Rattle.raml_syntax.specs.Tree.{Text, Prog}
use Rattle.lsp_language.specs.declared.insight.Action.{Action}
use Rattle.lsp_language.specs.declared.insight.Diagnostic.{Diagnostic}
use Rattle.lsp_language.specs.declared.insight.Insight.{Insight}
use Rattle.explain_degrees.specs.declared.finding.Findings.{Findings}
use Rattle.explain_reasons.specs.declared.reason.Explained.{Explained}
use Rattle.explain_sentences.specs.Reasons.{of_reason}
use Rattle.explain_advice.specs.Changes.{AreOffered, IsOffered, change_of, first_place}
use Rattle.explain_advice.specs.GivenUp.{message, of_functions}
use Rattle.explain_advice.specs.Information.{Information, informations_in, of_group, of_groups}

-- Diagnostics and actions come behind those before, and nothing else changes.
pub record IsAdded (told : List Information) (Offered : List Action → Type 0) (old new : Insight) : Type 0 where
  pub offered : List Action
  pub are : Offered offered
  pub diagnostics : informations_in new.diagnostics.items ≡ informations_in old.diagnostics.items ++ told
  pub actions : new.actions.items ≡ old.actions.items ++ offered
  pub hovers : new.hovers ≡ old.hovers
  pub lenses : new.lenses ≡ old.lenses
  pub hints : new.hints ≡ old.hints

-- of a group of functions, where analyses found this of all
abbrev pub IsGroupAdded : Text → Prog → List Findings → Explained → Insight → Insight → Type 0
IsGroupAdded source P found e =
    IsAdded (of_group P found e) (IsOffered source (change_of e.reason) e.fun.0 (first_place (of_reason P e.fun.0 e.reason)))

-- of all groups that have no bound: what is told of each, and the change that gives it its bounds, where there is one
abbrev pub IsAdvised : Text → Prog → List Findings → List Explained → Insight → Insight → Type 0
IsAdvised source P found reasons = IsAdded (of_groups P found reasons) (AreOffered source P reasons)

-- of each function of which not all bounds are known, where the analysis of this degree took more than so many pivots
abbrev pub IsGivenUpAdded : ℕ → ℕ → Prog → List Findings → Insight → Insight → Type 0
IsGivenUpAdded degree pivots P found = IsAdded (of_functions (message degree pivots) P found) (λ offered. offered ≡ [])

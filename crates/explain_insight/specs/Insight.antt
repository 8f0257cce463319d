-- What is known of an analysed program.
use Rattle.std.specs.Prelude.{◌≡◌, List, [], All}
use Rattle.raml_syntax.specs.Tree.{Text, Prog}
use Rattle.lsp_language.specs.declared.insight.Insight.{Insight}
use Rattle.explain_degrees.specs.declared.finding.Findings.{Findings}
use Rattle.explain_insight.specs.Hovers.{IsHover}
use Rattle.explain_insight.specs.Lenses.{AreEach, IsHint, IsLens}

-- the bounds above each function and at the end of its first line; and on names of functions and of parameters what is told of them
pub record IsToldProgram (source : Text) (P : Prog) (all : List Findings) (insight : Insight) : Type 0 where
  pub lenses : AreEach IsLens P all insight.lenses.items
  pub hints : AreEach (IsHint source) P all insight.hints.items
  pub hovers : All (IsHover source P all) insight.hovers.items
  pub no_diagnostics : insight.diagnostics.items ≡ []
  pub no_actions : insight.actions.items ≡ []

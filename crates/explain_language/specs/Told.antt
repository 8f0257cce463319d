-- What is told of a source.
use Rattle.std.specs.Prelude.{◌≡◌, ◌<◌, ◌⊎◌, ℕ, Option, Some, None, List, [], ◌∷◌, ◌++◌, length, codes, decimal, string_bytes}
use Rattle.raml_syntax.specs.Tree.{Text, Prog}
use Rattle.lsp_language.specs.declared.insight.Diagnostic.{Diagnostic}
use Rattle.lsp_language.specs.declared.insight.Insight.{Insight}
use Rattle.lsp_language.specs.declared.insight.Severity.TheVariants.{Error}
use Rattle.explain_check.specs.Checks.{IsProgramOf, most_bytes}
use Rattle.explain_degrees.specs.declared.finding.Findings.{Findings}
use Rattle.explain_degrees.specs.declared.least.LeastWithin.{LeastWithin}
use Rattle.explain_trials.specs.Trials.{FindsWithin}
use Rattle.explain_faults.specs.declared.fault.SourceFault.{SourceFault}
use Rattle.explain_faults.specs.Faults.{IsFirst}
use Rattle.explain_faults.specs.Told.{IsToldFault}
use Rattle.explain_insight.specs.Insight.{IsToldProgram}
use Rattle.explain_reasons.specs.Explanation.{AreReasons}
use Rattle.explain_reasons.specs.declared.reason.Explained.{Explained}
use Rattle.explain_advice.specs.Advice.{IsAdvised, IsGivenUpAdded}

-- it is longer than a source may be, and that is told at its start
pub record IsLong (source : Text) (insight : Insight) : Type 0 where
  pub long : most_bytes < length source
  pub diagnostic : Diagnostic
  pub one : insight.diagnostics.items ≡ diagnostic ∷ []
  pub start : diagnostic.span.start ≡ 0
  pub severity : diagnostic.severity ≡ Error
  pub message : string_bytes diagnostic.message ≡ codes "longer than " ++ (decimal most_bytes ++ codes " bytes")

-- it spells no typed program: its first fault is told
pub record IsFaulty (source : Text) (insight : Insight) : Type 0 where
  pub fault : SourceFault
  pub first : IsFirst source fault
  pub told : IsToldFault source fault insight

-- up to which degree changes are tried
abbrev pub most_tried : ℕ
most_tried = 3

-- Of a program of which analyses found this, where the bounds of its functions are told already: why groups have none, unless the analysis
-- of some degree was given up, which then is told.
abbrev pub IsToldWhy : Option ℕ → ℕ → Text → Prog → List Findings → Insight → Insight → Type 0
IsToldWhy None pivots source P found bounds insight =
    (reasons : List Explained) × AreReasons source P found most_tried reasons × IsAdvised source P found reasons bounds insight
IsToldWhy (Some degree) pivots source P found bounds insight = IsGivenUpAdded degree pivots P found bounds insight

-- It spells a typed program: what analyses at degrees up to `most`, each with at most so many pivots, find of its functions is told, and why
-- they find no more.
pub record IsAnalysed (most pivots : ℕ) (source : Text) (insight : Insight) : Type 0 where
  pub program : Prog
  pub spelled : IsProgramOf source program
  pub within : LeastWithin
  pub finds : FindsWithin program most (Some pivots) within
  pub bounds : Insight
  pub told : IsToldProgram source program within.found.functions.items bounds
  pub why : IsToldWhy within.given_up pivots source program within.found.functions.items bounds insight

abbrev pub IsTold : ℕ → ℕ → Text → Insight → Type 0
IsTold most pivots source insight = IsLong source insight ⊎ (IsFaulty source insight ⊎ IsAnalysed most pivots source insight)

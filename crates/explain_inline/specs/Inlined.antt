-- Calls that are written out so that a group gets bounds.
use Rattle.std.specs.Prelude.{◌≡◌, ℕ, List, true}
use Rattle.raml_syntax.specs.Tree.{Text, Prog}
use Rattle.raml_syntax.specs.Read.{program_of}
use Rattle.explain_degrees.specs.declared.finding.Findings.{Findings}
use Rattle.explain_lines.specs.Mended.{mended_lines, mends_group}
use Rattle.explain_lines.specs.Read.{lines_of}
use Rattle.explain_trials.specs.Read.{IsTrialOf}
use Rattle.explain_mending.specs.Mended.{findings_in}
use Rattle.explain_inline.specs.Headers.{SameHeaders}
use Rattle.explain_inline.specs.Texts.{IsReplaced}
use Rattle.explain_inline.specs.declared.mending.Inlined.{Inlined}

-- Of the source of a program, of which analyses found this before: one stretch of it was replaced, the program that it spells now has
-- functions with the same headers, and was analysed, which mends the lines that are told, and so each function of the group has bounds.
pub record IsInlined (source : Text) (P : Prog) (old : List Findings) (most : ℕ) (group : List ℕ) (inlined : Inlined) : Type 0 where
  pub replaced : IsReplaced source inlined.trial.text.items
  pub headers : SameHeaders P (program_of inlined.trial.typed)
  pub analysed : IsTrialOf most inlined.trial
  pub lines : lines_of inlined.lines.items ≡ mended_lines old (findings_in inlined.trial)
  pub mends : mends_group old (findings_in inlined.trial) group ≡ true

-- How lines are judged, one after the other.
use Rattle.std.specs.Prelude.{◌≡◌, ℕ, List, [], ◌∷◌, Some, take, slice_get}
use Rattle.share_normal.specs.Program.{source_in}
use Rattle.rules_plan.specs.Read.{program_in}
use Rattle.annot_types.specs.Held.{Bound, lines_for, line}
use Rattle.cert_check.specs.Checked.{Checking}
use Rattle.base_poly.specs.Poly.{Term}
use Rattle.bound_file.specs.Lines.{Line}
use Rattle.explain_degrees.specs.Degrees.{IsOverParameters}
use Rattle.explain_verdicts.specs.declared.judged.Judged.{Judged}
use Rattle.explain_budget.specs.Judging.{IsJudged, AreJudged}

module _ (K : Checking) where
  -- the bounds that the certificate claims are over the parameters of their functions
  abbrev pub AllAreOver : Type 0
  AllAreOver = (l : Line) (den : ℕ) (terms : List Term) →
      lines_for (program_in K.program) K.certificate l.fun l.meter ≡ line l.fun l.meter (Bound den terms) ∷ [] →
      IsOverParameters (source_in K.program) l.fun terms

  abbrev pub IsJudgedLine : Line → Judged → Type 0
  IsJudgedLine = IsJudged (source_in K.program) (program_in K.program) K.certificate

  -- the first of these lines, so many, are judged
  abbrev pub JudgedBelow : List Line → ℕ → List Judged → Type 0
  JudgedBelow lines number all = AreJudged (source_in K.program) (program_in K.program) K.certificate (take number lines) all

  -- the line of this number is judged
  abbrev pub JudgedAt : List Line → ℕ → Judged → Type 0
  JudgedAt lines number judged = (l : Line) → slice_get lines number ≡ Some l → IsJudgedLine l judged

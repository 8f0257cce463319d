-- Verdicts, line by line.
use Rattle.std.specs.Prelude.{◌≡◌, ◌<◌, ◌++◌, ℕ, ℤ, suc, List, take, slice_get, Option, Some}
use Rattle.raml_syntax.specs.Tree.{Text}
use Rattle.share_normal.specs.Program.{source_in}
use Rattle.annot_types.specs.Certificate.{Block}
use Rattle.rules_plan.specs.Read.{program_in}
use Rattle.cert_check.specs.Checked.{Checking}
use Rattle.bound_file.specs.Lines.{Line}
use Rattle.bound_contract.specs.Decided as d
use Rattle.bound_contract.specs.Decided.{Decided, IsOwn}
use Rattle.bound_contract.specs.Asked.{MayBeAsked}
use Rattle.bound_contract.specs.declared.fault.DecideFault.{DecideFault}
use Rattle.bound_contract.specs.declared.fault.DecideFault.TheVariants as decide
use Rattle.contract_report.specs.Verdicts.{Verdict, Kept, NotKept, Waits, Decides, VerdictHolds, verdict_line, AreVerdictLines}
use Rattle.contract_report.specs.Refused.{IsLineClear}
use Rattle.contract_report.specs.declared.fault.VerdictsFault.{VerdictsFault}
use Rattle.contract_report.specs.declared.fault.VerdictsFault.TheVariants as f

-- what is told of what is decided
abbrev pub verdict_of : Decided → Verdict
verdict_of (d.Kept other) = Kept
verdict_of (d.NotKept vector) = NotKept
verdict_of (d.Calls fun) = Waits fun

-- what is told of a bound that is not decided, on the line of this number, counted from 0
abbrev pub fault_at : ℕ → DecideFault → VerdictsFault
fault_at number decide.TooLarge = f.TooLarge (suc number)
fault_at number (decide.Leaves at) = f.Leaves (suc number)
fault_at number decide.NoMemory = f.NoMemory

module _ (K : Checking) where
  -- The line may be asked for, and the certificate has a block of its own for it.
  pub record CanBeAsked (line : Line) : Type 0 where
    pub asked : MayBeAsked K line
    pub place : ℕ
    pub own : Block
    pub is : IsOwn (program_in K.program) K.certificate line place own

  module _ (lines : List Line) where
    -- each of them can
    abbrev pub AllCanBeAsked : Type 0
    AllCanBeAsked = (number : ℕ) (line : Line) → slice_get lines number ≡ Some line → CanBeAsked line

    -- the text is that of the first of these lines, so many
    abbrev pub ToldBelow : ℕ → Text → Type 0
    ToldBelow number text = AreVerdictLines (source_in K.program) (program_in K.program) K.certificate (take number lines) text

    -- no place comes at them
    abbrev pub ClearBelow : (List ℤ → ℤ → Option ℕ) → ℕ → Type 0
    ClearBelow pick number =
        (k : ℕ) (line : Line) → k < number → slice_get lines k ≡ Some line → IsLineClear (program_in K.program) K.certificate pick line

    -- the verdict of the line of this number stands behind the text
    pub record HasVerdictLine (number : ℕ) (before after : Text) : Type 0 where
      pub line : Line
      pub there : slice_get lines number ≡ Some line
      pub verdict : Verdict
      pub decides : Decides (program_in K.program) K.certificate line verdict
      pub holds : VerdictHolds (source_in K.program) K.certificate.degree line verdict
      pub is : after ≡ before ++ verdict_line (source_in K.program) line verdict

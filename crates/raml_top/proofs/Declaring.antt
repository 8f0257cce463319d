-- Declared bounds: the reports of what is decided of them.
use Rattle.std.proofs.Common.{◌≡◌, ℕ, List, Some, Ok, Err, refl, subst, inl}
use Rattle.std.specs.Prelude.{slice_get}
use Rattle.std.specs.List.{All}
use Rattle.std.proofs.lemmas.Option.{slice_get_within, get_or_from_slice_get}
use Rattle.share_normal.specs.Program.{Kept, source_in}
use Rattle.rules_plan.specs.Read.{program_in}
use Rattle.cert_check.specs.Checked.{Checking}
use Rattle.annot_types.specs.Certificate.{Certificate}
use Rattle.simplex_checked.specs.Rules.{least_pick}
use Rattle.bound_file.specs.Lines.{Line}
use Rattle.contract_report.specs.Verdicts.{AreVerdictLines}
use Rattle.contract_report.specs.Refused.{AllLinesClear}
use Rattle.contract_report.specs.Told.{VerdictsRefused}
use Rattle.contract_report.specs.declared.fault.VerdictsFault.{VerdictsFault}
use Rattle.contract_report.specs.declared.fault.VerdictsFault.TheVariants as verdicts
use Rattle.refusals.specs.Ending.{Ending, Done, LineTooLarge, Overflows, OnLine, ending_of}
use Rattle.refusals.specs.Refusals.{names_in, IsToldOr}
use Rattle.refusals.specs.declared.answer.Report.{Report}
use Rattle.refusals.specs.declared.answer.Refusal.{Refusal}
use Rattle.refusals.specs.declared.status.Status.{Status}
use Rattle.refusals.specs.declared.status.Status.TheVariants as s
use Rattle.refusals.specs.declared.status.OverflowAt.TheVariants as o
use Rattle.raml_promise.specs.Outside.{Sound}
use Rattle.raml_promise.specs.Steps.{Prints, goes_on}
use Rattle.raml_promise.specs.DeclaredBounds.{LinesRefuse, PrintsVerdicts}
use Rattle.raml_parts.specs.Parts.{Gives, VerdictRefusal}
use Rattle.raml_parts.proofs.Stepping.{step_refused}
use Rattle.raml_parts.proofs.Refusing.{told_refuses}

-- what is claimed of each line
pub all_there : (Q : Line → Type 0) (lines : List Line) → All Q lines → (number : ℕ) (line : Line) → slice_get lines number ≡ Some line → Q line
all_there Q lines all number line there = subst Q (get_or_from_slice_get lines number line line there) (all number line (slice_get_within lines number line there))

-- ---- reports

module _ (kept : Kept) (c : Certificate) (lines : List Line) (K : Checking) (same : K ≡ record { program = kept; certificate = c }) where
  pub verdicts_given : (report : Report) → ending_of report.status ≡ Some Done → AllLinesClear (program_in K.program) K.certificate least_pick lines →
      AreVerdictLines (source_in K.program) (program_in K.program) K.certificate lines report.text.items → Gives (PrintsVerdicts Sound (source_in kept) (program_in kept) lines c) (Ok report)
  verdicts_given report status clear told = (
    Done,
    status,
    goes_on tt (subst (λ (K : Checking). AllLinesClear (program_in K.program) K.certificate least_pick lines) same clear)
        (subst (λ (K : Checking). AreVerdictLines (source_in K.program) (program_in K.program) K.certificate lines report.text.items) same told),
  )

  denied : (refusal : Refusal) (status : Status) (ending : Ending) → ending_of status ≡ Some ending → LinesRefuse (program_in kept) c lines ending → IsToldOr (names_in kept) status refusal →
      Gives (PrintsVerdicts Sound (source_in kept) (program_in kept) lines c) (Err refusal)
  denied refusal status ending is h told =
      step_refused (names_in kept) (LinesRefuse (program_in kept) c lines) (λ (done : Unit {0}). AllLinesClear (program_in kept) c least_pick lines)
      (λ done. Prints Sound (AreVerdictLines (source_in kept) (program_in kept) c lines)) refusal
      (told_refuses (names_in kept) status ending (LinesRefuse (program_in kept) c lines) is h refusal told)

  refused : (fault : VerdictsFault) → VerdictsRefused (program_in kept) c least_pick lines fault → (refusal : Refusal) → VerdictRefusal fault refusal →
      Gives (PrintsVerdicts Sound (source_in kept) (program_in kept) lines c) (Err refusal)
  refused (verdicts.TooLarge line) h refusal told = denied refusal (s.LineTooLarge line) (LineTooLarge line) refl h told
  refused (verdicts.Leaves line) h refusal told = denied refusal (s.Overflow (o.DeclaredBound line)) (Overflows (OnLine line)) refl h told
  refused verdicts.NoMemory h refusal told = inl told

  pub verdicts_denied : (fault : VerdictsFault) → VerdictsRefused (program_in K.program) K.certificate least_pick lines fault → (refusal : Refusal) → VerdictRefusal fault refusal →
      Gives (PrintsVerdicts Sound (source_in kept) (program_in kept) lines c) (Err refusal)
  verdicts_denied fault h refusal told = refused fault (subst (λ (K : Checking). VerdictsRefused (program_in K.program) K.certificate least_pick lines fault) same h) refusal told

-- Why a call ends so, by what was written.
use Rattle.std.proofs.Common.{◌≡◌, ◌⊎◌, Ok, Err, refl, subst, inl, inr}
use Rattle.raml_syntax.specs.Tree.{Text}
use Rattle.refusals.specs.Line.{Names, no_names, line_of}
use Rattle.refusals.specs.Refusals.{line_text}
use Rattle.refusals.specs.declared.answer.Report.{Report as TheReport}
use Rattle.refusals.specs.declared.answer.Refusal.{Refusal as TheRefusal}
use Rattle.refusals.specs.declared.status.Status.{Status}
use Rattle.refusals.specs.declared.status.Status.TheVariants.{WriteFault, NoMemory}
use Rattle.raml_promise.specs.Outside.{Sound, Outside, GainsNothing, Gains, GainsFront}
use Rattle.raml_promise.specs.Steps.{Report, Refusal}
use Rattle.raml_promise.specs.Promise.{WordsAnswer, Tells, Cause}
use Rattle.raml_parts.specs.Parts as parts

module _ (o : Outside) where
  pub written_cause : (report : TheReport) → parts.Gives (WordsAnswer Sound o.words o.store) (Ok report) → Gains report.text.items o.out → GainsNothing o.err → Cause o report.status
  written_cause report given whole quiet = inr (Report given.0 report.text.items, given.2, inl (given.1, whole, quiet))

  pub failed_cause : (report : TheReport) → parts.Gives (WordsAnswer Sound o.words o.store) (Ok report) → GainsFront report.text.items o.out →
      Gains (line_of no_names WriteFault) o.err ⊎ GainsFront (line_of no_names WriteFault) o.err → Cause o WriteFault
  failed_cause report given front told = inr (Report given.0 report.text.items, given.2, inr (refl, front, told))

  told_by : (line : Text) (names : Names) (status : Status) → line ≡ line_of names status → Gains line o.err ⊎ GainsFront line o.err → Tells names status o.err
  told_by line names status same told = subst (λ t. Gains t o.err ⊎ GainsFront t o.err) same told

  pub refused_cause : (refusal : TheRefusal) → parts.Gives (WordsAnswer Sound o.words o.store) (Err refusal) → GainsNothing o.out →
      Gains (line_text refusal.line) o.err ⊎ GainsFront (line_text refusal.line) o.err → Cause o refusal.status
  refused_cause refusal (inl h) quiet told = inl (h.0, quiet, told_by (line_text refusal.line) no_names NoMemory h.1 told)
  refused_cause refusal (inr h) quiet told = inr (Refusal h.0 h.1, h.4, (h.2, quiet, told_by (line_text refusal.line) h.0 refusal.status h.3 told))

-- What `verify` answers to what `certify` wrote.
use Rattle.std.specs.Prelude.{◌≡◌, ℕ, ◌++◌, Some, codes}
use Rattle.raml_syntax.specs.Tree.{Text, Prog}
use Rattle.raml_words.specs.Words as w
use Rattle.raml_words.specs.Words.{Asks}
use Rattle.raml_words.specs.declared.request.Rule.{Rule}
use Rattle.call_groups.specs.Groups.{Grouping, IsGrouping}
use Rattle.rules_soundness_laws.specs.Laws.{normal_of}
use Rattle.annot_types.specs.Certificate.{Certificate}
use Rattle.cert_json.specs.Told.{text_of}
use Rattle.bound_infer.specs.Inferred.{IsInferred}
use Rattle.analysis_report.specs.Lines.{AreLines}
use Rattle.refusals.specs.Ending.{Done, ReadFault, TooLong, Overflows}
use Rattle.refusals.specs.declared.status.Status.{Status}
use Rattle.refusals.specs.declared.status.Status.TheVariants as s
use Rattle.refusal_text.specs.declared.plain.Which.TheVariants as which
use Rattle.raml_promise.specs.Outside.{Outside, Sound, Tells, IsRead, Gains}
use Rattle.raml_promise.specs.Steps.{Answer, Report, Refusal, most_bytes, IsTooLong, IsTyped}
use Rattle.raml_promise.specs.Analysis.{analysis}
use Rattle.raml_promise.specs.Promise.{Comes, Cause}

-- a call of `verify` whose store tells that its files hold this source and this text
pub record VerifiesText (o : Outside) (source text : Text) : Type 0 where
  pub file : Text
  pub certificate : Text
  pub asks : Asks o.words (w.Verify file certificate)
  pub program : Tells o.store file (Some source)
  pub certified : Tells o.store certificate (Some text)

-- It is answered with these lines, or a number leaves 128 bits. Or a file is not read, or the text is too long for a certificate.
abbrev pub AnswersAgain : (Text → Type 0) → Text → Answer → Type 0
AnswersAgain Lines text (Report Done lines) = Lines lines
AnswersAgain Lines text (Refusal names (Overflows place)) = Unit {0}
AnswersAgain Lines text (Refusal names (ReadFault file)) = Unit {0}
AnswersAgain Lines text (Refusal names (TooLong which.Certificate)) = IsTooLong which.Certificate text
AnswersAgain Lines text _ = ⊥

-- What `certify` wrote is the text of a certificate, that in which the analysis of the source's program ends; and each
-- call of `verify` to which it is given with the same source is answered with the lines of this certificate, or in
-- those other ways.
pub record WritesCertificate (o : Outside) (file : Text) (degree : ℕ) (rule : Rule) : Type 0 where
  pub source : Text
  pub seen : IsRead Sound o.store (most_bytes which.Program) file (Some source)
  pub program : Prog
  pub typed : IsTyped source program
  pub groups : Grouping
  pub grouping : IsGrouping program groups
  pub certificate : Certificate
  pub inferred : IsInferred (analysis (normal_of program groups.list) degree rule) certificate
  pub written : Gains (text_of certificate ++ codes "\n") o.out
  pub again : (other : Outside) (a : Answer) → VerifiesText other source (text_of certificate ++ codes "\n") → Comes Sound other a →
      AnswersAgain (AreLines program (normal_of program groups.list) certificate) (text_of certificate ++ codes "\n") a

-- A call of `certify` that ends with status 0 does so.
abbrev pub VerifiesAgain : Outside → Status → Type 0
VerifiesAgain o status =
    (file : Text) (degree : ℕ) (rule : Rule) → Asks o.words (w.Certify file degree rule) →
    status ≡ s.Done → WritesCertificate o file degree rule

-- Of each call whose cause is known.
abbrev pub WrittenVerifies : Type 0
WrittenVerifies = (o : Outside) (status : Status) → Cause o status → VerifiesAgain o status

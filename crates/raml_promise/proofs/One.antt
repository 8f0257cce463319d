-- What is needed for an answer brings it.
use Rattle.std.proofs.Common.{◌≡◌, ◌⊎◌, ℕ, List, [], Option, Some, None, sym, ◌∙◌, inl, inr}
use Rattle.raml_syntax.specs.Tree.{Text, Prog}
use Rattle.raml_syntax.specs.Value.{Value}
use Rattle.raml_syntax.specs.Types.{Typed}
use Rattle.raml_syntax.specs.Node.{WithinLimits}
use Rattle.raml_parse.proofs.Limits.{within_limits}
use Rattle.rules_soundness_laws.specs.Laws.{normal_of}
use Rattle.annot_types.specs.Program.{Program}
use Rattle.annot_types.specs.Certificate.{Certificate}
use Rattle.call_groups.specs.Groups.{Grouping, IsGrouping}
use Rattle.cert_check.specs.Finds.{FirstFault}
use Rattle.cert_check.specs.Laws.{IsFaultless}
use Rattle.raml_words.specs.Words as w
use Rattle.raml_words.specs.Words.{Request, Asks, AsksNothing}
use Rattle.raml_words.proofs.Worded.{one_request}
use Rattle.raml_words.specs.declared.request.Rule.{Rule}
use Rattle.raml_words.specs.declared.request.Rule.TheVariants as rule
use Rattle.stack_compile.specs.Text.{code_text}
use Rattle.report_text.specs.Report.{type_lines}
use Rattle.report_text.specs.Trial.{trial_text, trial_function, trial_data}
use Rattle.refusal_text.specs.declared.plain.Which.TheVariants as which
use Rattle.analysis_report.specs.Lines.{AreLines}
use Rattle.analysis_report.specs.Comparison.{AreComparisons}
use Rattle.price_file.specs.Construct.{Prices}
use Rattle.price_file.specs.Listed.{AreSmall}
use Rattle.price_file.specs.Applied.{applied_function, applied_program}
use Rattle.price_file.proofs.Kept.{keeps_programs}
use Rattle.refusal_text.specs.declared.task.Analysed.{Analysed}
use Rattle.refusal_text.specs.declared.task.Analysed.TheVariants as analysed
use Rattle.refusals.specs.Line.{no_names}
use Rattle.refusals.specs.declared.status.Status.{Status}
use Rattle.refusals.specs.declared.status.Status.TheVariants.{NoMemory}
use Rattle.raml_promise.specs.Outside.{Outside, Sound, Complete, Store}
use Rattle.raml_promise.specs.Steps.{Answer, Report, Refusal, ending_in, Prints, IsTyped, OfProgram, OfNormal}
use Rattle.raml_promise.specs.DeclaredBounds.{PrintsVerdicts}
use Rattle.raml_promise.specs.Prices.{ArePricedLines, Spends}
use Rattle.raml_promise.specs.Analysis.{OfCourse, OfCheck}
use Rattle.raml_promise.specs.Call.{Placed, Limits, OfCall, OfFloors}
use Rattle.raml_promise.specs.Promise.{PrintsLines, IsTextOf, PrintsCertificate, ListsTypes, ListsCode, Analyses, Certifies, Verifies, RunsBounded, BoundedCall, PricesLines, PricesProgram, SpendsWithin, ComparesWith, Compares, PrintsPowers, ChecksBounds, RunsTrial, TriesCall, Tries, Answers, WordsAnswer, EndsBy, Cause, EndsAlike, IsWritable, Forced}
use Rattle.raml_promise.proofs.Alike.{alike_same, Same, steps_same, prints_same}
use Rattle.raml_promise.proofs.OneSource.{short_same, source_same, program_same}
use Rattle.raml_promise.specs.Known.{KnownLaws}
use Rattle.raml_promise.proofs.OneCourse.{normal_same, course_same}
use Rattle.raml_promise.proofs.OneCheck.{certificate_same, check_same}
use Rattle.raml_promise.proofs.OnePrices.{prices_same}
use Rattle.raml_promise.proofs.OnePowers.{powers_same}
use Rattle.raml_promise.proofs.OneContract.{bounds_same, verdicts_same}
use Rattle.raml_promise.proofs.OneRun.{function_same, arguments_same, call_same, floors_same, runs_same}

-- a typed program that is within the limits
record IsKnown (P : Prog) : Type 0 where
  pub typed : Typed P
  pub limits : WithinLimits P

-- such is what a source spells, also with prices written out
known : (source : List ℕ) (P : Prog) → IsTyped source P → IsKnown P
known source P is = record { typed = is.typed; limits = within_limits 200 is.spelled.tokens P is.spelled.derives }

known_under : (prices : Prices) → AreSmall prices → (P : Prog) → IsKnown P → IsKnown (applied_program prices P)
known_under prices small P is = let keeps = keeps_programs prices P in record { typed = keeps.typed is.typed; limits = keeps.limits small is.limits }

module _ (laws : KnownLaws) where
  -- over the courses of one program
  of_courses : (whose : Analysed) (P : Prog) → IsKnown P → (degree : ℕ) (rule : Rule) (Q T : Program → Certificate → Answer → Type 0) →
      ((N : Program) (c : Certificate) (a b : Answer) → Q N c a → T N c b → Same a b) → (a b : Answer) →
      OfNormal P (λ N. OfCourse Complete whose P N degree rule (Q N)) a → OfNormal P (λ N. OfCourse Sound whose P N degree rule (T N)) b → Same a b
  of_courses whose P known degree rule Q T rest =
      normal_same P (λ N. OfCourse Complete whose P N degree rule (Q N)) (λ N. OfCourse Sound whose P N degree rule (T N))
      (λ groups grouping. course_same laws whose P known.typed known.limits.numbers groups grouping degree rule (Q (normal_of P groups.list)) (T (normal_of P groups.list)) (rest (normal_of P groups.list)))

  -- a certificate that is held, within the limits, and whose totals fit, passes the check
  passes : (P : Prog) → IsKnown P → (groups : Grouping) → IsGrouping P groups → (c : Certificate) → IsFaultless (normal_of P groups.list) c → FirstFault (normal_of P groups.list) c None
  passes P is groups grouping c =
      let N = normal_of P groups.list in (laws.faultless N (laws.proper N (laws.ordered P is.typed is.limits.numbers groups grouping)) c).1

  verified_same : (store : Store) (file : Text) (P : Prog) → IsKnown P → (a b : Answer) → Verifies Complete store file P a → Verifies Sound store file P b → Same a b
  verified_same store file P is =
      certificate_same store file (λ c. OfNormal P (λ N. OfCheck Complete P N c (PrintsLines Complete P N c))) (λ c. OfNormal P (λ N. OfCheck Sound P N c (PrintsLines Sound P N c)))
      (λ c. normal_same P (λ N. OfCheck Complete P N c (PrintsLines Complete P N c)) (λ N. OfCheck Sound P N c (PrintsLines Sound P N c))
      (λ groups grouping. check_same (normal_of P groups.list) c (passes P is groups grouping c) P (PrintsLines Complete P (normal_of P groups.list) c) (PrintsLines Sound P (normal_of P groups.list) c)
      (prints_same (AreLines P (normal_of P groups.list) c) (AreLines P (normal_of P groups.list) c))))

  bounded_same : (P : Prog) → IsKnown P → (steps : ℕ) (cells : Option ℕ) (degree : ℕ) (f : Placed) (args : List Value) (a b : Answer) →
      BoundedCall Complete steps cells degree P f args a → BoundedCall Sound steps cells degree P f args b → Same a b
  bounded_same P is steps cells degree f args =
      of_courses analysed.Program P is degree rule.Least
      (λ N c. OfFloors Complete P N c f args (λ floors. RunsBounded Complete P f args steps cells floors)) (λ N c. OfFloors Sound P N c f args (λ floors. RunsBounded Sound P f args steps cells floors))
      (λ N c. floors_same P N c f args (λ floors. RunsBounded Complete P f args steps cells floors) (λ floors. RunsBounded Sound P f args steps cells floors)
      (λ floors. runs_same P f args _ _ _ _ _))

  tried_same : (P : Prog) → IsKnown P → (count : ℕ) (a b : Answer) → Tries Complete count P a → Tries Sound count P b → Same a b
  tried_same P is count =
      of_courses analysed.Program P is 1 rule.Least (TriesCall Complete count P) (TriesCall Sound count P)
      (λ N c. function_same P (trial_function count) _ _
      (λ f. arguments_same trial_data f.1 (λ args. RunsTrial Complete count P N c f args) (λ args. RunsTrial Sound count P N c f args) (λ args. runs_same P f args _ _ _ _ _)))

  priced_same : (store : Store) (file : Text) (degree : ℕ) (P : Prog) → IsKnown P → (a b : Answer) → PricesProgram Complete store file degree P a → PricesProgram Sound store file degree P b → Same a b
  priced_same store file degree P is =
      prices_same store file (PricesLines Complete degree P) (PricesLines Sound degree P)
      (λ prices small. of_courses analysed.Program (applied_program prices P) (known_under prices small P is) degree rule.Least
      (λ N c. Prints Complete (ArePricedLines prices P N c)) (λ N c. Prints Sound (ArePricedLines prices P N c)) (λ N c. prints_same (ArePricedLines prices P N c) (ArePricedLines prices P N c)))

  spent_same : (store : Store) (file name input : Text) (limits : Limits) (P : Prog) (a b : Answer) → SpendsWithin Complete store file name input limits P a →
      SpendsWithin Sound store file name input limits P b → Same a b
  spent_same store file name input limits P =
      prices_same store file
      (λ prices. OfCall Complete store P name input (λ f args. Spends Complete prices P f args limits)) (λ prices. OfCall Sound store P name input (λ f args. Spends Sound prices P f args limits))
      (λ prices small. call_same store P name input (λ f args. Spends Complete prices P f args limits) (λ f args. Spends Sound prices P f args limits) (run_same prices))
    where
      run_same : (prices : Prices) (f : Placed) (args : List Value) (a b : Answer) → Spends Complete prices P f args limits a → Spends Sound prices P f args limits b → Same a b
      run_same prices f args a b h k = runs_same (applied_program prices P) (f.0, applied_function prices f.1) args limits [] [] [] [] a b h.runs k.runs

  contracted_same : (store : Store) (file : Text) (degree : ℕ) (P : Prog) → IsKnown P → (a b : Answer) → ChecksBounds Complete store file degree P a → ChecksBounds Sound store file degree P b → Same a b
  contracted_same store file degree P is =
      bounds_same laws.files store file P degree _ _
      (λ declared. of_courses analysed.Program P is degree rule.Least (λ N. PrintsVerdicts Complete P N declared.lines) (λ N. PrintsVerdicts Sound P N declared.lines)
      (λ N c. verdicts_same P N declared.lines c))

  compared_same : (store : Store) (file : Text) (degree : ℕ) (P : Prog) → IsKnown P → (a b : Answer) → Compares Complete store file degree P a → Compares Sound store file degree P b → Same a b
  compared_same store file degree P is =
      of_courses analysed.Program P is degree rule.Least
      (λ N c. OfProgram Complete store analysed.Other file (ComparesWith Complete degree P N c)) (λ N c. OfProgram Sound store analysed.Other file (ComparesWith Sound degree P N c))
      (λ N c. program_same store analysed.Other file (ComparesWith Complete degree P N c) (ComparesWith Sound degree P N c)
      (λ source Q typed. of_courses analysed.Other Q (known source Q typed) degree rule.Least
      (λ M e. Prints Complete (AreComparisons P N c Q M e)) (λ M e. Prints Sound (AreComparisons P N c Q M e)) (λ M e. prints_same (AreComparisons P N c Q M e) (AreComparisons P N c Q M e))))

  answers_same : (store : Store) (request : Request) (a b : Answer) → Answers Complete store request a → Answers Sound store request b → Same a b
  answers_same store (w.Types file) = program_same store analysed.Program file (ListsTypes Complete) (ListsTypes Sound) (λ source P is. prints_same (λ text. text ≡ type_lines P) (λ text. text ≡ type_lines P))
  answers_same store (w.Code file) = program_same store analysed.Program file (ListsCode Complete) (ListsCode Sound) (λ source P is. prints_same (λ text. text ≡ code_text P) (λ text. text ≡ code_text P))
  answers_same store (w.Analyse file degree rule) =
      program_same store analysed.Program file (Analyses Complete degree rule) (Analyses Sound degree rule)
      (λ source P is. of_courses analysed.Program P (known source P is) degree rule (λ N c. PrintsLines Complete P N c) (λ N c. PrintsLines Sound P N c) (λ N c. prints_same (AreLines P N c) (AreLines P N c)))
  answers_same store (w.Certify file degree rule) =
      program_same store analysed.Program file (Certifies Complete degree rule) (Certifies Sound degree rule)
      (λ source P is. of_courses analysed.Program P (known source P is) degree rule (λ N c. PrintsCertificate Complete c) (λ N c. PrintsCertificate Sound c) (λ N c. prints_same (IsTextOf c) (IsTextOf c)))
  answers_same store (w.Verify file certificate) =
      program_same store analysed.Program file (Verifies Complete store certificate) (Verifies Sound store certificate) (λ source P is. verified_same store certificate P (known source P is))
  answers_same store (w.Run file name input steps cells None) =
      program_same store analysed.Program file _ _ (λ source P is. call_same store P name input _ _ (λ f args. runs_same P f args _ _ _ _ _))
  answers_same store (w.Run file name input steps cells (Some degree)) =
      program_same store analysed.Program file _ _ (λ source P is. call_same store P name input _ _ (bounded_same P (known source P is) steps cells degree))
  answers_same store (w.Priced file prices degree) = program_same store analysed.Program file _ _ (λ source P is. priced_same store prices degree P (known source P is))
  answers_same store (w.Spend file prices name input steps cells) = program_same store analysed.Program file _ _ (λ source P is. spent_same store prices name input _ P)
  answers_same store (w.Compare file other degree) = program_same store analysed.Program file _ _ (λ source P is. compared_same store other degree P (known source P is))
  answers_same store (w.Powers file degree) =
      program_same store analysed.Program file _ _
      (λ source P is. of_courses analysed.Program P (known source P is) degree rule.Least (PrintsPowers Complete P) (PrintsPowers Sound P) (λ N c. powers_same P N c))
  answers_same store (w.Contract file bounds degree) = program_same store analysed.Program file _ _ (λ source P is. contracted_same store bounds degree P (known source P is))
  answers_same store (w.Trial count) =
      short_same which.Program (trial_text count) _ _ (source_same (trial_text count) analysed.Program _ _ (λ P is. tried_same P (known (trial_text count) P is) count))

  words_same : (words : List Text) (store : Store) (a b : Answer) → WordsAnswer Complete words store a → WordsAnswer Sound words store b → Same a b
  words_same words store =
      steps_same no_names no_names _ _ (Asks words) (Asks words) (λ request. Answers Complete store request) (λ request. Answers Sound store request)
      (record {
        refusals = λ e f r s. alike_same e f (r.0 ∙ sym s.0);
        not_left = λ e request r asks. r.1 request asks;
        not_right = λ request e asks r. r.1 request asks;
        one = λ r s h k. one_request words r s h k;
      })
      (λ request x y. answers_same store request)

  -- a call whose cause is known ends as what is needed brings
  pub causes_force : (o : Outside) (status : Status) → Cause o status → Forced o status
  causes_force o status (inl h) a needed writable = inl h.0
  causes_force o status (inr (b, comes, ends)) a needed writable = by a b (words_same o.words o.store a b needed comes) writable ends
    where
      by : (a b : Answer) → Same a b → IsWritable o.out a → EndsBy o b status → (status ≡ NoMemory) ⊎ EndsAlike (ending_in a) status
      by (Report e text) (Report f other) same writable (inl h) = inr (f, h.0, same)
      by (Report e text) (Report f other) same writable (inr h) = absurd (writable h.1.1)
      by (Refusal names e) (Refusal others f) same writable h = inr (f, h.0, same)
      by (Report e text) (Refusal others f) same writable h = absurd same
      by (Refusal names e) (Report f other) same writable h = absurd same

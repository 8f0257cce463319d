-- What the top call promises.
use Rattle.std.specs.Prelude.{◌≡◌, ◌≤◌, ◌⊎◌, ℕ, List, [], ◌++◌, length, Option, Some, None, codes}
use Rattle.raml_syntax.specs.Tree.{Text, Prog}
use Rattle.raml_syntax.specs.Value.{Value}
use Rattle.raml_words.specs.Words as w
use Rattle.raml_words.specs.Words.{Request, Asks, AsksNothing}
use Rattle.raml_words.specs.declared.request.Rule.{Rule}
use Rattle.raml_words.specs.declared.request.Rule.TheVariants as rule
use Rattle.stack_compile.specs.Text.{code_text}
use Rattle.cost_free.specs.declared.task.Meter.TheVariants.{Ticks, Cells, Work}
use Rattle.annot_types.specs.Program.{Program}
use Rattle.annot_types.specs.Certificate.{Certificate}
use Rattle.infer_spec.specs.Places.{stage}
use Rattle.cert_json.specs.Told.{text_of, IsFile}
use Rattle.report_text.specs.Report.{type_lines}
use Rattle.report_text.specs.Claims.{lines_text}
use Rattle.report_text.specs.RunBounds.{run_bound_lines}
use Rattle.report_text.specs.Trial.{trial_text, trial_function, trial_data, functions_line}
use Rattle.price_file.specs.Construct.{Prices}
use Rattle.price_file.specs.Applied.{applied_program}
use Rattle.analysis_report.specs.Lines.{lines_of, AreLines}
use Rattle.analysis_report.specs.Comparison.{AreComparisons}
use Rattle.analysis_report.specs.Powers.{ArePowersFitting, ArePowerLines}
use Rattle.analysis_report.specs.Floors.{Floors}
use Rattle.refusals.specs.Ending.{Ending, Usage, Overflows, OnTask, OfOther, ending_of}
use Rattle.refusals.specs.Line.{Names, no_names, line_of}
use Rattle.refusals.specs.declared.status.Status.{Status}
use Rattle.refusals.specs.declared.status.Status.TheVariants.{WriteFault, NoMemory}
use Rattle.raml_promise.specs.Outside.{Outside, Store, Sink, Side, Sound, Complete, Rises, GainsNothing, Gains, GainsFront}
use Rattle.raml_promise.specs.Steps.{Answer, Report, Refusal, ending_in, Step, Test, Prints, most_bytes, OfShort, OfSource, OfProgram}
use Rattle.raml_promise.specs.Steps.{OfNormal, names_of}
use Rattle.raml_promise.specs.Analysis.{OfCourse, OfCertificate, OfCheck, PowersRefuse}
use Rattle.raml_promise.specs.DeclaredBounds.{OfBounds, PrintsVerdicts}
use Rattle.raml_promise.specs.Prices.{OfPrices, ArePricedLines, Spends}
use Rattle.raml_promise.specs.Call.{Placed, Limits, OfFunction, OfArguments, OfCall, OfFloors, Runs, cells_or, usual_cells}
use Rattle.refusal_text.specs.declared.plain.Which.TheVariants as which
use Rattle.refusal_text.specs.declared.task.Analysed.TheVariants as analysed

-- ---- limits of runs

-- those that the words tell; where they tell no cells, as many as where there is no bound
abbrev pub run_limits : ℕ → Option ℕ → Limits
run_limits steps cells = record { steps = steps; cells = cells_or cells None }

-- those of the run of a made program
abbrev pub trial_limits : Limits
trial_limits = record { steps = 10000000; cells = usual_cells }

-- ---- texts

-- The text of a certificate. Where it is no longer than a certificate may be, it is read as this certificate.
abbrev pub IsTextOf : Certificate → Text → Type 0
IsTextOf c text = (text ≡ text_of c ++ codes "\n") × (length text ≤ most_bytes which.Certificate → IsFile text c)

-- the lines of a run's bounds, which are numbers at its arguments
abbrev pub bound_lines : Floors → Text
bound_lines floors = run_bound_lines (floors Ticks) (floors Cells) (floors Work)

-- ---- what each command answers for a program; one definition for both sides, soundness and completeness

module _ (side : Side) where
  -- the types of its functions; and their code
  abbrev pub ListsTypes : Prog → Answer → Type 0
  ListsTypes P = Prints side (λ text. text ≡ type_lines P)

  abbrev pub ListsCode : Prog → Answer → Type 0
  ListsCode P = Prints side (λ text. text ≡ code_text P)

  -- the lines of a certificate, function by function in the order of the source; and its text
  abbrev pub PrintsLines : Prog → Program → Certificate → Answer → Type 0
  PrintsLines P N c = Prints side (AreLines P N c)

  abbrev pub PrintsCertificate : Certificate → Answer → Type 0
  PrintsCertificate c = Prints side (IsTextOf c)

  -- `analyse` prints the lines of the certificate with which the analysis ends, and `certify` the certificate.
  abbrev pub Analyses : ℕ → Rule → Prog → Answer → Type 0
  Analyses degree rule P = OfNormal P (λ N. OfCourse side analysed.Program P N degree rule (PrintsLines P N))

  abbrev pub Certifies : ℕ → Rule → Prog → Answer → Type 0
  Certifies degree rule P = OfNormal P (λ N. OfCourse side analysed.Program P N degree rule PrintsCertificate)

  -- A run, with its bounds at the arguments. Where the words do not limit its cells, the bound of cells does.
  abbrev pub RunsBounded : Prog → Placed → List Value → ℕ → Option ℕ → Floors → Answer → Type 0
  RunsBounded P f args steps cells floors =
      Runs side P f args (record { steps = steps; cells = cells_or cells (floors Cells) }) [] (bound_lines floors)

  abbrev pub BoundedCall : ℕ → Option ℕ → ℕ → Prog → Placed → List Value → Answer → Type 0
  BoundedCall steps cells degree P f args = OfNormal P (λ N. OfCourse side analysed.Program P N degree rule.Least (λ c.
      OfFloors side P N c f args (RunsBounded P f args steps cells)))

  -- the bounds of ticks of a program under a table of prices
  abbrev pub PricesLines : ℕ → Prog → Prices → Answer → Type 0
  PricesLines degree P prices = OfNormal (applied_program prices P) (λ N.
      OfCourse side analysed.Program (applied_program prices P) N degree rule.Least (λ c. Prints side (ArePricedLines prices P N c)))

  -- the bounds of a program compared with those of another one
  abbrev pub ComparesWith : ℕ → Prog → Program → Certificate → Prog → Answer → Type 0
  ComparesWith degree P N c Q = OfNormal Q (λ M.
      OfCourse side analysed.Other Q M degree rule.Least (λ e. Prints side (AreComparisons P N c Q M e)))

  -- the bounds of flat functions, in powers of numbers of elements
  abbrev pub PrintsPowers : Prog → Program → Certificate → Answer → Type 0
  PrintsPowers P N c = Test (names_of P N) (PowersRefuse P N c) (ArePowersFitting P N c) (Prints side (ArePowerLines P N c))

  abbrev pub ShowsPowers : ℕ → Prog → Answer → Type 0
  ShowsPowers degree P = OfNormal P (λ N. OfCourse side analysed.Program P N degree rule.Least (PrintsPowers P N))

  -- `trial` makes a program, and prints how many functions it has, the lines of the last one, and a run of that.
  abbrev pub RunsTrial : ℕ → Prog → Program → Certificate → Placed → List Value → Answer → Type 0
  RunsTrial count P N c f args = Runs side P f args trial_limits (functions_line count ++ lines_text P (lines_of N c f.0)) []

  abbrev pub TriesCall : ℕ → Prog → Program → Certificate → Answer → Type 0
  TriesCall count P N c = OfFunction P (trial_function count) (λ f. OfArguments trial_data f.1 (RunsTrial count P N c f))

  abbrev pub Tries : ℕ → Prog → Answer → Type 0
  Tries count P = OfNormal P (λ N. OfCourse side analysed.Program P N 1 rule.Least (TriesCall count P N))

  -- commands that read more files than the program
  module _ (store : Store) where
    -- the lines of a certificate that a file has
    abbrev pub Verifies : Text → Prog → Answer → Type 0
    Verifies file P = OfCertificate side store file (λ c. OfNormal P (λ N. OfCheck side P N c (PrintsLines P N c)))

    -- a run within limits; and one with its bounds
    abbrev pub RunsWithin : Text → Text → Limits → Prog → Answer → Type 0
    RunsWithin name file limits P = OfCall side store P name file (λ f args. Runs side P f args limits [] [])

    abbrev pub RunsWithBounds : Text → Text → ℕ → Option ℕ → ℕ → Prog → Answer → Type 0
    RunsWithBounds name file steps cells degree P = OfCall side store P name file (BoundedCall steps cells degree P)

    -- the bounds under a table of prices; and a run, with its cost under the prices in the place of ticks
    abbrev pub PricesProgram : Text → ℕ → Prog → Answer → Type 0
    PricesProgram file degree P = OfPrices side store file (PricesLines degree P)

    abbrev pub SpendsWithin : Text → Text → Text → Limits → Prog → Answer → Type 0
    SpendsWithin file name input limits P =
        OfPrices side store file (λ prices. OfCall side store P name input (λ f args. Spends side prices P f args limits))

    -- The program is analysed before the other one is read.
    abbrev pub Compares : Text → ℕ → Prog → Answer → Type 0
    Compares file degree P = OfNormal P (λ N. OfCourse side analysed.Program P N degree rule.Least (λ c.
        OfProgram side store analysed.Other file (ComparesWith degree P N c)))

    -- Which of the bounds that a file declares are kept. The file is read before the program is analysed.
    abbrev pub ChecksBounds : Text → ℕ → Prog → Answer → Type 0
    ChecksBounds file degree P = OfBounds side store file P degree (λ declared.
        OfNormal P (λ N. OfCourse side analysed.Program P N degree rule.Least (PrintsVerdicts side P N declared.lines)))

    -- of the typed program that a file spells
    abbrev pub OfFileOf : Text → (Prog → Answer → Type 0) → Answer → Type 0
    OfFileOf = OfProgram side store analysed.Program

    -- what a request asks for
    abbrev pub Answers : Request → Answer → Type 0
    Answers (w.Types file) = OfFileOf file ListsTypes
    Answers (w.Code file) = OfFileOf file ListsCode
    Answers (w.Analyse file degree rule) = OfFileOf file (Analyses degree rule)
    Answers (w.Certify file degree rule) = OfFileOf file (Certifies degree rule)
    Answers (w.Verify file certificate) = OfFileOf file (Verifies certificate)
    Answers (w.Run file name input steps cells None) = OfFileOf file (RunsWithin name input (run_limits steps cells))
    Answers (w.Run file name input steps cells (Some degree)) = OfFileOf file (RunsWithBounds name input steps cells degree)
    Answers (w.Priced file prices degree) = OfFileOf file (PricesProgram prices degree)
    Answers (w.Spend file prices name input steps cells) = OfFileOf file (SpendsWithin prices name input (run_limits steps cells))
    Answers (w.Compare file other degree) = OfFileOf file (Compares other degree)
    Answers (w.Powers file degree) = OfFileOf file (ShowsPowers degree)
    Answers (w.Contract file bounds degree) = OfFileOf file (ChecksBounds bounds degree)
    Answers (w.Trial count) = OfShort which.Program (trial_text count) (OfSource analysed.Program (trial_text count) (Tries count))

  -- what words ask for
  abbrev pub WordsAnswer : List Text → Store → Answer → Type 0
  WordsAnswer words store = Step no_names (λ e. (e ≡ Usage) × AsksNothing words) (Asks words) (Answers store)

  abbrev pub Comes : Outside → Answer → Type 0
  Comes o = WordsAnswer o.words o.store

-- ---- how a call ends

-- the line of a status is written to the error stream, or a prefix of it where writing fails there
abbrev pub Tells : Names → Status → Sink → Type 0
Tells names status err = Gains (line_of names status) err ⊎ GainsFront (line_of names status) err

-- A report is written whole to the output, or a prefix of it where writing fails there, which is an ending of its own. A refusal
-- writes nothing there, and its line to the error stream.
abbrev pub EndsBy : Outside → Answer → Status → Type 0
EndsBy o (Report e text) status =
    ((ending_of status ≡ Some e) × Gains text o.out × GainsNothing o.err)
    ⊎ ((status ≡ WriteFault) × GainsFront text o.out × Tells no_names WriteFault o.err)
EndsBy o (Refusal names e) status = (ending_of status ≡ Some e) × GainsNothing o.out × Tells names status o.err

-- memory ran out
abbrev pub LacksMemory : Outside → Status → Type 0
LacksMemory o status = (status ≡ NoMemory) × GainsNothing o.out × Tells no_names NoMemory o.err

-- Soundness: a call that ends with this status, and writes this, ends by an answer that is promised, or memory ran out.
abbrev pub Cause : Outside → Status → Type 0
Cause o status = LacksMemory o status ⊎ ((a : Answer) × Comes Sound o a × EndsBy o a status)

-- The same ending. Only where a number overflows is less said: where several would, any one of them may be told, but it is of
-- the same task and at the same kind of place.
abbrev pub Alike : Ending → Ending → Type 0
Alike (Overflows (OnTask task place)) (Overflows (OnTask other last)) = (task ≡ other) × (stage place ≡ stage last)
Alike (OfOther e) (OfOther other) = Alike e other
Alike e other = e ≡ other

abbrev pub EndsAlike : Ending → Status → Type 0
EndsAlike e status = (other : Ending) × (ending_of status ≡ Some other) × Alike e other

-- the output does not fail, where a report is to be written
abbrev pub IsWritable : Sink → Answer → Type 0
IsWritable out (Report e text) = ¬ (Rises out.count)
IsWritable out (Refusal names e) = Unit {0}

-- Completeness: where all is there that an answer needs, the call ends by that answer, or memory runs out.
abbrev pub Forced : Outside → Status → Type 0
Forced o status = (a : Answer) → Comes Complete o a → IsWritable o.out a → (status ≡ NoMemory) ⊎ EndsAlike (ending_in a) status

-- soundness gives completeness: two answers of one call, one promised and one due, end alike
abbrev pub CausesForce : Type 0
CausesForce = (o : Outside) (status : Status) → Cause o status → Forced o status

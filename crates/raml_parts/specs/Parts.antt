-- What the parts of a call answer.
use Rattle.std.specs.Prelude.{◌≡◌, ◌≤◌, ◌<◌, ◌⊎◌, ◌^◌, ℕ, List, length, slice_get, Result, Ok, Err, Option, Some, None}
use Rattle.std.specs.List.{All}
use Rattle.raml_syntax.specs.Tree.{Text, Function, Prog}
use Rattle.raml_syntax.specs.Value.{Value, HaveTypes}
use Rattle.raml_syntax.specs.Types.{types_of}
use Rattle.value_text.specs.declared.word.Word.{Word}
use Rattle.value_text.specs.declared.word.Cell.{Cell}
use Rattle.value_text.specs.Stands.{StandForAll}
use Rattle.value_text.specs.Reading.{Answers}
use Rattle.annot_types.specs.Certificate.{Certificate}
use Rattle.cert_json.specs.Told.{IsFile}
use Rattle.refusal_text.specs.declared.plain.Which.{Which}
use Rattle.refusal_text.specs.declared.plain.Which.TheVariants as w
use Rattle.refusal_text.specs.declared.task.Analysed.{Analysed}
use Rattle.price_file.specs.Construct.{Prices}
use Rattle.price_file.specs.Spelling.{Table, prices_in}
use Rattle.price_file.specs.Spelling as prices_spelling
use Rattle.bound_file.specs.Lines.{Declaration}
use Rattle.bound_file.specs.Answers.{Spells}
use Rattle.analysis_report.specs.declared.bounds.FloorFault.{FloorFault}
use Rattle.analysis_report.specs.declared.bounds.FloorFault.TheVariants as floor
use Rattle.contract_report.specs.declared.fault.VerdictsFault.{VerdictsFault}
use Rattle.contract_report.specs.declared.fault.VerdictsFault.TheVariants as verdicts
use Rattle.analysis_report.specs.declared.powers_fault.PowersFault.{PowersFault}
use Rattle.analysis_report.specs.declared.powers_fault.PowersFault.TheVariants as powers
use Rattle.refusals.specs.Ending.{Ending, Usage, Source, Types, ending_of}
use Rattle.refusals.specs.Line.{Names, no_names, line_of}
use Rattle.refusals.specs.Refusals.{line_text, IsWanting, IsToldOr}
use Rattle.refusals.specs.declared.answer.Report.{Report}
use Rattle.refusals.specs.declared.answer.Refusal.{Refusal as TheRefusal}
use Rattle.refusals.specs.declared.status.Status.{Status}
use Rattle.refusals.specs.declared.status.Status.TheVariants as status
use Rattle.refusals.specs.declared.status.OverflowAt.TheVariants as overflow
use Rattle.raml_promise.specs.Outside.{Sound, Store, IsRead}
use Rattle.raml_promise.specs.Steps.{Answer, Refusal, most_bytes, IsTyped, file_of, OfFile, OfProgram}
use Rattle.raml_promise.specs.Steps as s
use Rattle.raml_promise.specs.Analysis.{OfCertificate}
use Rattle.raml_promise.specs.Prices.{OfPrices}
use Rattle.raml_promise.specs.DeclaredBounds.{OfBounds}
use Rattle.raml_promise.specs.Call.{Placed, DataRefuses, Limits, Ends, OfCall}
use Rattle.raml_words.specs.Words as words
use Rattle.raml_words.specs.Words.{Request, AsksNothing}
use Rattle.raml_parts.specs.declared.run.Limits.{Limits as TheLimits}
use Rattle.raml_parts.specs.declared.call.Arguments.{Arguments}
use Rattle.raml_parts.specs.declared.call.Call.{Call}
use Rattle.raml_syntax.specs.Place.{place_of}
use Rattle.simple_types.specs.Walk.{walk_program}
use Rattle.value_text.specs.Spelling.{sizes}
use Rattle.raml_syntax.specs.Node.{WithinLimits, program_nodes}

-- the refusal has an ending of which Q holds, and its line is that of its status; or memory is wanting
abbrev pub Refuses : Names → (Ending → Type 0) → TheRefusal → Type 0
Refuses names Q refusal =
    IsWanting refusal
    ⊎ ((e : Ending) × (ending_of refusal.status ≡ Some e) × (line_text refusal.line ≡ line_of names refusal.status) × Q e)

-- the report, or the refusal, is an answer of which Q holds; or memory is wanting
abbrev pub Gives : (Answer → Type 0) → Result Report TheRefusal → Type 0
Gives Q (Ok report) = (e : Ending) × (ending_of report.status ≡ Some e) × Q (s.Report e report.text.items)
Gives Q (Err refusal) =
    IsWanting refusal
    ⊎ ((names : Names) × (e : Ending) × (ending_of refusal.status ≡ Some e)
    × (line_text refusal.line ≡ line_of names refusal.status) × Q (Refusal names e))

abbrev pub Before : (Text → ℕ) → (Text → ℕ) → Type 0
Before before now = (name : Text) → before name ≤ now name

-- the bytes of a file, no more than its limit
pub record IsShort (store : Store) (which : Which) (file bytes : List ℕ) : Type 0 where
  pub read : IsRead Sound store (most_bytes which) file (Some bytes)
  pub short : length bytes ≤ most_bytes which

-- Why a part comes to nothing: the step of the call at which it is refused, with nothing behind it.
abbrev pub nothing : {X : Type 0} → X → Answer → Type 0
nothing x a = ⊥

abbrev pub FileRefuses : Store → Which → List ℕ → Ending → Type 0
FileRefuses store which file e = OfFile Sound store which file nothing (Refusal no_names e)

-- the typed program that a file spells
pub record IsProgram (store : Store) (whose : Analysed) (file : List ℕ) (P : Prog) : Type 0 where
  pub source : List ℕ
  pub within : IsShort store (file_of whose) file source
  pub typed : IsTyped source P

abbrev pub ProgramRefuses : Store → Analysed → List ℕ → Ending → Type 0
ProgramRefuses store whose file e = OfProgram Sound store whose file nothing (Refusal no_names e)

-- the prices that a file tells
pub record ArePrices (store : Store) (file : List ℕ) (prices : Prices) : Type 0 where
  pub bytes : List ℕ
  pub within : IsShort store w.Prices file bytes
  pub table : Table
  pub spelled : prices_spelling.Spells bytes table
  pub are : prices ≡ prices_in table

abbrev pub PriceFileRefuses : Store → List ℕ → Ending → Type 0
PriceFileRefuses store file e = OfPrices Sound store file nothing (Refusal no_names e)

-- the bounds that a file declares for a program at a degree
pub record AreBounds (store : Store) (file : List ℕ) (P : Prog) (degree : ℕ) (declared : Declaration) : Type 0 where
  pub bytes : List ℕ
  pub within : IsShort store w.Bounds file bytes
  pub spelled : Spells P degree bytes declared

abbrev pub BoundsFileRefuses : Store → List ℕ → Prog → ℕ → Ending → Type 0
BoundsFileRefuses store file P degree e = OfBounds Sound store file P degree nothing (Refusal no_names e)

-- the certificate that a file is
pub record IsCertificateFile (store : Store) (file : List ℕ) (c : Certificate) : Type 0 where
  pub bytes : List ℕ
  pub within : IsShort store w.Certificate file bytes
  pub is : IsFile bytes c

abbrev pub CertificateRefuses : Store → List ℕ → Ending → Type 0
CertificateRefuses store file e = OfCertificate Sound store file nothing (Refusal no_names e)

-- why a call is not read
abbrev pub CallRefuses : Store → Prog → List ℕ → List ℕ → Ending → Type 0
CallRefuses store P name file e = OfCall Sound store P name file (λ f. nothing) (Refusal no_names e)

-- what is known of a typed program that a source within its limit spells
pub record IsReady (P : Prog) : Type 0 where
  pub limits : WithinLimits P
  pub few_nodes : program_nodes P ≤ 1048576
  pub parameters : All (λ (g : Function). 1 ≤ length g.params) P

-- the program that a source spells is not typed
abbrev pub TypesRefuse : Prog → Ending → Type 0
TypesRefuse P (Source (Types fault)) = walk_program P ≡ Err fault
TypesRefuse P _ = ⊥

-- the refusal of a bound that is not worked out
abbrev pub FloorRefusal : FloorFault → TheRefusal → Type 0
FloorRefusal (floor.Leaves meter) refusal = IsToldOr no_names (status.Overflow (overflow.Point meter)) refusal
FloorRefusal floor.NoMemory refusal = IsWanting refusal

-- the refusal of a power form that is not worked out
abbrev pub PowerRefusal : Names → PowersFault → TheRefusal → Type 0
PowerRefusal names (powers.Leaves fun meter) refusal = IsToldOr names (status.Overflow (overflow.Powers fun meter)) refusal
PowerRefusal names powers.NoMemory refusal = IsWanting refusal

-- the refusal of a declared bound that is not decided
abbrev pub VerdictRefusal : VerdictsFault → TheRefusal → Type 0
VerdictRefusal (verdicts.TooLarge line) refusal = IsToldOr no_names (status.LineTooLarge line) refusal
VerdictRefusal (verdicts.Leaves line) refusal = IsToldOr no_names (status.Overflow (overflow.DeclaredBound line)) refusal
VerdictRefusal verdicts.NoMemory refusal = IsWanting refusal

-- the words stand in these cells for arguments of the function
pub record HasArguments (P : Prog) (f : Placed) (cells : List Cell) (words : List Word) (args : List Value) : Type 0 where
  pub there : slice_get P f.0 ≡ Some f.1
  pub stand : StandForAll cells words args
  pub types : HaveTypes args (types_of f.1)
  pub few_cells : length cells < 2 ^ 31
  pub small : sizes args ≤ 1048576

-- the report of the run of the function at the place on these words
abbrev pub RanOn : Prog → ℕ → List Cell → List Word → Limits → Status → List ℕ → Type 0
RanOn P place cells words limits how text =
    (f : Placed) (args : List Value) → f.0 ≡ place → HasArguments P f cells words args →
    (e : Ending) × (ending_of how ≡ Some e) × Ends Sound P f args limits text e

abbrev pub limits_of : TheLimits → Limits
limits_of limits = record { steps = limits.steps; cells = limits.cells }

-- The arguments are what the bytes spell for the function at the place.
pub record ReadsArguments (P : Prog) (place : ℕ) (bytes : List ℕ) (args : Arguments) : Type 0 where
  pub fun : Function
  pub values : List Value
  pub arguments : HasArguments P (place, fun) args.heap.cells args.words.items values
  pub spelled : Answers bytes (types_of fun) (Ok values)

pub record ArgumentsRefuse (P : Prog) (place : ℕ) (bytes : List ℕ) (e : Ending) : Type 0 where
  pub fun : Function
  pub there : slice_get P place ≡ Some fun
  pub refuses : DataRefuses bytes fun e

-- The call is of the function of the name, on the arguments that the file spells.
pub record ReadsCall (store : Store) (P : Prog) (name file : List ℕ) (call : Call) : Type 0 where
  pub place : place_of name P ≡ Some call.place.0
  pub bytes : List ℕ
  pub within : IsShort store w.Data file bytes
  pub reads : ReadsArguments P call.place.0 bytes call.args

-- the call is of this function on these arguments
pub record IsCallOf (P : Prog) (f : Placed) (call : Call) (args : List Value) : Type 0 where
  pub place : f.0 ≡ call.place.0
  pub arguments : HasArguments P f call.args.heap.cells call.args.words.items args

-- the cells that the words allow a run
abbrev pub CellsWithin : Option ℕ → Type 0
CellsWithin None = Unit {0}
CellsWithin (Some cells) = cells ≤ 16777216

abbrev pub DegreeWithin : Option ℕ → Type 0
DegreeWithin None = Unit {0}
DegreeWithin (Some degree) = (1 ≤ degree) × (degree ≤ 4)

-- the numbers of a request are within their ranges
abbrev pub IsWithin : Request → Type 0
IsWithin (words.Analyse file degree rule) = (1 ≤ degree) × (degree ≤ 4)
IsWithin (words.Certify file degree rule) = (1 ≤ degree) × (degree ≤ 4)
IsWithin (words.Run file name input steps cells degree) = (steps ≤ 1000000000) × CellsWithin cells × DegreeWithin degree
IsWithin (words.Priced file prices degree) = (1 ≤ degree) × (degree ≤ 4)
IsWithin (words.Spend file prices name input steps cells) = (steps ≤ 1000000000) × CellsWithin cells
IsWithin (words.Contract file bounds degree) = (1 ≤ degree) × (degree ≤ 4)
IsWithin (words.Compare file other degree) = (1 ≤ degree) × (degree ≤ 4)
IsWithin (words.Powers file degree) = (1 ≤ degree) × (degree ≤ 4)
IsWithin (words.Trial count) = count ≤ 100
IsWithin request = Unit {0}

-- of a made program this is claimed
abbrev pub OfTrial : Request → Type 0 → Type 0
OfTrial (words.Trial count) claim = claim
OfTrial request claim = Unit {0}

abbrev pub WordsRefuse : List Text → Ending → Type 0
WordsRefuse given e = (e ≡ Usage) × AsksNothing given

-- What is told of the data for a function.
use Rattle.std.specs.List.{All}
use Rattle.std.specs.Prelude.{◌≡◌, ◌≤◌, ◌⊎◌, ℕ, List, [], ◌++◌, length, Option, Some, None, Ok, Err, codes}
use Rattle.raml_syntax.specs.Tree.{Text, Type', Function, Prog}
use Rattle.raml_syntax.specs.Types.{types_of}
use Rattle.raml_syntax.specs.Value.{Value}
use Rattle.raml_syntax.specs.Eval.{find}
use Rattle.value_text.specs.Reading.{Answers}
use Rattle.value_text.specs.declared.fault.DataFault.{DataFault}
use Rattle.value_text.specs.declared.fault.DataFault.TheVariants.{NotUtf8, Shape, TooDeep, TooManyCells, NoMemory}
use Rattle.explain_check.specs.Stores.{Store, Holds, Unread, error_line}
use Rattle.explain_check.specs.Checks.{FileIs, HoldsProgram, fault_head}
use Rattle.explain_check.specs.declared.verdict.Verdict.TheVariants as v
use Rattle.explain_data.specs.declared.finding.Finding.{Finding}
use Rattle.explain_data.specs.declared.finding.Finding.TheVariants as f

-- the byte of data at which `raml` refuses it
abbrev pub data_place : DataFault → Option ℕ
data_place (NotUtf8 at) = Some at.0
data_place (Shape at) = Some at.0
data_place (TooDeep at) = Some at.0
data_place TooManyCells = None
data_place NoMemory = None

-- what is told at a byte: its line and column, and more; without a byte: that there are too many cells
abbrev pub ToldAt : Text → Text → Option ℕ → Text → Type 0
ToldAt name data' (Some at) part = (rest : Text) × (part ≡ fault_head name data' at ++ rest)
ToldAt name data' None part = part ≡ error_line name (codes "more than 1048576 cells")

-- what is told of data that spells no arguments of these types: its first fault
abbrev pub DataFaultIs : Text → Text → List Type' → Text → Type 0
DataFaultIs name data' types part =
    (fault : DataFault) × Answers data' types (Err fault) × ToldAt name data' (data_place fault) part

-- what is told of data: nothing of data that spells arguments of these types
abbrev pub DataIs : Text → Text → List Type' → Finding → Text → Type 0
DataIs name data' types f.Fits part = (values : List Value) × Answers data' types (Ok values) × (part ≡ [])
DataIs name data' types f.Refused part = DataFaultIs name data' types part
DataIs name data' types f.Untyped part = ⊥

abbrev pub most_data_bytes : ℕ
most_data_bytes = 4194304

-- what is told of a file of data
abbrev pub DataFileIs : Store → Text → List Type' → Finding → Text → Type 0
DataFileIs store name types f.Fits part = (data' : Text) × Holds store name data' × DataIs name data' types f.Fits part
DataFileIs store name types f.Refused part =
    Unread store most_data_bytes name part ⊎ ((data' : Text) × Holds store name data' × DataFaultIs name data' types part)
DataFileIs store name types f.Untyped part = ⊥

-- FILE: error: no function is named NAME
abbrev pub no_function_line : Text → Text → Text
no_function_line file name = error_line file (codes "no function is named " ++ name)

-- what is told of the data for a function of a program: that there is no such function, else that of its data
abbrev pub ProgramIs : Store → Prog → Text → Text → Text → Finding → Text → Type 0
ProgramIs store P file name data' finding part =
    ((find name P ≡ None) × (finding ≡ f.Refused) × (part ≡ no_function_line file name))
    ⊎ ((g : Function) × (find name P ≡ Some g) × DataFileIs store data' (types_of g) finding part)

-- what is told of a call: that of its source where it is not read or not typed, else that of its function
abbrev pub CallIs : Store → Text → Text → Text → Finding → Text → Type 0
CallIs store file name data' f.Untyped part = FileIs store file v.Faulty part
CallIs store file name data' f.Fits part = (P : Prog) × HoldsProgram store file P × ProgramIs store P file name data' f.Fits part
CallIs store file name data' f.Refused part =
    FileIs store file v.Unread part ⊎ ((P : Prog) × HoldsProgram store file P × ProgramIs store P file name data' f.Refused part)

-- each function has one to eight parameters
abbrev pub HaveSomeParameters : Prog → Type 0
HaveSomeParameters = All (λ (g : Function). (1 ≤ length g.params) × (length g.params ≤ 8))

-- What refusals are: of a status, with its line.
use Rattle.std.specs.Prelude.{◌≡◌, ◌⊎◌, ℕ, List, Option, Some, None, string_bytes}
use Rattle.raml_syntax.specs.Tree.{Text}
use Rattle.raml_parse.specs.declared.fault.ParseFault.{ParseFault}
use Rattle.raml_parse.specs.declared.fault.ParseFault.TheVariants as parse
use Rattle.simple_types.specs.declared.fault.TypeFault.{TypeFault}
use Rattle.simple_types.specs.declared.fault.TypeFault.TheVariants as types
use Rattle.value_text.specs.declared.fault.DataFault.{DataFault}
use Rattle.value_text.specs.declared.fault.DataFault.TheVariants as data_fault
use Rattle.cert_json.specs.declared.whole.JsonFault.{JsonFault}
use Rattle.cert_json.specs.declared.whole.JsonFault.TheVariants as json
use Rattle.share_normal.specs.Program.{Kept, source_in}
use Rattle.cost_free.specs.declared.task.Task.{Task}
use Rattle.cost_free.specs.Read.{task_of}
use Rattle.constraint_gen.specs.declared.fault.What.TheVariants.{Indices}
use Rattle.cert_check.specs.Fault as check
use Rattle.cert_check.specs.Read.{fault_of}
use Rattle.cert_check.specs.declared.fault.CertFault.{CertFault}
use Rattle.bound_infer.specs.declared.leaves.LeavesAt.{LeavesAt}
use Rattle.bound_infer.specs.declared.leaves.LeavesAt.TheVariants.{Check}
use Rattle.bound_infer.specs.declared.refusal.InferFault.{InferFault}
use Rattle.bound_infer.specs.declared.refusal.InferFault.TheVariants as infer
use Rattle.refusal_text.specs.declared.source.SourceFault.{SourceFault}
use Rattle.refusal_text.specs.declared.source.SourceFault.TheVariants as source
use Rattle.refusal_text.specs.declared.task.Analysed.{Analysed}
use Rattle.refusal_text.specs.declared.task.Analysed.TheVariants.{Program, Other}
use Rattle.refusals.specs.Line.{Names, no_names, line_of}
use Rattle.refusals.specs.declared.answer.Line.{Line}
use Rattle.refusals.specs.declared.answer.Line.TheVariants.{Fixed, Made}
use Rattle.refusals.specs.declared.answer.Refusal.{Refusal as TheRefusal}
use Rattle.refusals.specs.declared.status.Status.{Status}
use Rattle.refusals.specs.declared.status.Status.TheVariants.{NoMemory}
use Rattle.refusals.specs.declared.status.Status.TheVariants as status
use Rattle.refusals.specs.declared.status.CertAnswer.TheVariants as answer
use Rattle.refusals.specs.declared.status.OverflowAt.TheVariants as overflow

abbrev pub line_text : Line → Text
line_text (Fixed text) = text.now
line_text (Made text) = string_bytes text

-- the refusal is of this status, and its line is the status's
abbrev pub IsOf : Names → Status → TheRefusal → Type 0
IsOf names status refusal = (refusal.status ≡ status) × (line_text refusal.line ≡ line_of names status)

-- memory is wanting
abbrev pub IsWanting : TheRefusal → Type 0
IsWanting refusal = IsOf no_names NoMemory refusal

abbrev pub IsToldOr : Names → Status → TheRefusal → Type 0
IsToldOr names status refusal = IsWanting refusal ⊎ IsOf names status refusal

-- the refusals of the parser's faults, of the check of types', and of the reader of data's
abbrev pub source_status : Analysed → SourceFault → Status
source_status Program fault = status.Source fault
source_status Other fault = status.OtherSource fault

abbrev pub ParseRefusal : Analysed → ParseFault → TheRefusal → Type 0
ParseRefusal whose parse.NoMemory refusal = IsWanting refusal
ParseRefusal whose fault refusal = IsToldOr no_names (source_status whose (source.Parse fault)) refusal

abbrev pub TypeRefusal : Analysed → TypeFault → TheRefusal → Type 0
TypeRefusal whose types.NoMemory refusal = IsWanting refusal
TypeRefusal whose fault refusal = IsToldOr no_names (source_status whose (source.«Type» fault)) refusal

abbrev pub DataRefusal : DataFault → TheRefusal → Type 0
DataRefusal data_fault.NoMemory refusal = IsWanting refusal
DataRefusal fault refusal = IsToldOr no_names (status.Data fault) refusal

abbrev pub JsonRefusal : JsonFault → TheRefusal → Type 0
JsonRefusal json.NoMemory refusal = IsWanting refusal
JsonRefusal fault refusal = IsToldOr no_names (status.Certificate (answer.Json fault)) refusal

-- the names of a program in normal form
abbrev pub names_in : Kept → Names
names_in kept = record { program = source_in kept; groups = kept.groups.list }

-- why the course of a program's analysis has no certificate
abbrev pub course_status : Analysed → InferFault → Status
course_status Program (infer.TooLarge task what) = status.TooLarge task what
course_status Program (infer.Leaves place) = status.Overflow (overflow.At place)
course_status Program infer.NoMemory = NoMemory
course_status Other fault = status.OtherFault fault

abbrev pub CourseRefusal : Analysed → Names → InferFault → TheRefusal → Type 0
CourseRefusal whose names infer.NoMemory refusal = IsWanting refusal
CourseRefusal whose names fault refusal = IsToldOr names (course_status whose fault) refusal

-- the place is that of a condition in the check
abbrev pub IsCheckAt : ℕ → List ℕ → ℕ → LeavesAt → Type 0
IsCheckAt block path index (Check b p i) = (b ≡ block) × (p.items ≡ path) × (i ≡ index)
IsCheckAt block path index place = ⊥

-- what the check of a certificate finds, as a refusal
abbrev pub CheckRefusal : Names → Option check.Fault → TheRefusal → Type 0
CheckRefusal names None refusal = IsWanting refusal
CheckRefusal names (Some (check.Leaves block path index)) refusal =
    IsWanting refusal
    ⊎ ((place : LeavesAt) × IsCheckAt block path index place × IsOf names (status.Overflow (overflow.At place)) refusal)
CheckRefusal names (Some (check.TooLarge task)) refusal =
    IsWanting refusal ⊎ ((told : Task) × (task_of told ≡ task) × IsOf names (status.TooLarge told Indices) refusal)
CheckRefusal names (Some fault) refusal =
    IsWanting refusal ⊎ ((told : CertFault) × (fault_of told ≡ Some fault) × IsOf names (status.Certificate (answer.Check told)) refusal)

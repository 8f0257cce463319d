-- How calls end.
use Rattle.std.specs.Prelude.{ℕ, List, Option, Some, None}
use Rattle.std.specs.Option.{option_map}
use Rattle.cost_free.specs.declared.task.Meter.{Meter}
use Rattle.cost_free.specs.Task.{Task}
use Rattle.cost_free.specs.Read.{task_of}
use Rattle.infer_spec.specs.Generator.{What}
use Rattle.infer_spec.specs.Places.{Place}
use Rattle.raml_parse.specs.declared.fault.ParseFault.{ParseFault}
use Rattle.raml_parse.specs.declared.fault.ParseFault.TheVariants as p
use Rattle.raml_lex.specs.declared.token.LexFault.TheVariants as l
use Rattle.simple_types.specs.Fault as types
use Rattle.simple_types.specs.Read as types_read
use Rattle.value_text.specs.declared.fault.DataFault.{DataFault}
use Rattle.value_text.specs.declared.fault.DataFault.TheVariants as d
use Rattle.cert_json.specs.Faults as text
use Rattle.cert_json.specs.Told.{place_of}
use Rattle.cert_json.specs.declared.whole.JsonFault.{JsonFault}
use Rattle.cert_json.specs.declared.whole.JsonFault.TheVariants as j
use Rattle.cert_check.specs.Fault as check
use Rattle.cert_check.specs.Read as check_read
use Rattle.bound_infer.specs.Inferred.{what_of}
use Rattle.bound_infer.specs.Told.{told_of}
use Rattle.bound_infer.specs.declared.leaves.LeavesAt.{LeavesAt}
use Rattle.bound_infer.specs.declared.leaves.LeavesAt.TheVariants as at
use Rattle.bound_infer.specs.declared.refusal.InferFault.{InferFault}
use Rattle.bound_infer.specs.declared.refusal.InferFault.TheVariants as infer
use Rattle.price_file.specs.declared.fault.PriceFault.{PriceFault}
use Rattle.bound_file.specs.declared.fault.DeclFault.{DeclFault}
use Rattle.refusals.specs.declared.status.Status.{Status}
use Rattle.refusals.specs.declared.status.Status.TheVariants as s
use Rattle.refusal_text.specs.declared.plain.Which.{Which}
use Rattle.refusal_text.specs.declared.source.SourceFault.{SourceFault}
use Rattle.refusal_text.specs.declared.source.SourceFault.TheVariants as source
use Rattle.refusals.specs.declared.status.CertAnswer.{CertAnswer}
use Rattle.refusals.specs.declared.status.CertAnswer.TheVariants as c
use Rattle.refusals.specs.declared.status.OverflowAt.{OverflowAt}
use Rattle.refusals.specs.declared.status.OverflowAt.TheVariants as o

-- Why a source is refused: it spells no program, or one that is not typed.
pub data SourceEnding : Type 0 where
  Parse : ParseFault → SourceEnding
  Types : types.Fault → SourceEnding

-- Why a certificate is: its text has this fault, the check has, or the vector of this block refutes nothing.
pub data CertificateEnding : Type 0 where
  Json : text.Fault → CertificateEnding
  Check : check.Fault → CertificateEnding
  NotRefuted : ℕ → CertificateEnding

-- Where a number leaves its range: at a place on a task, in the check of a condition of the rules, at a bound on a
-- meter where it is worked out, in the power form of a function's bound, or where the declared bound on a line of its
-- file is decided.
pub data Overflow : Type 0 where
  OnTask : Task → Place → Overflow
  InCheck : ℕ → List ℕ → ℕ → Overflow
  AtPoint : Meter → Overflow
  InPowers : ℕ → Meter → Overflow
  OnLine : ℕ → Overflow

-- The ends of a call, beside want of memory. What refuses a program to compare with is what would refuse the program.
pub data Ending : Type 0 where
  Done : Ending
  Usage : Ending
  ReadFault : Which → Ending
  TooLong : Which → Ending
  Source : SourceEnding → Ending
  BadData : DataFault → Ending
  NoFunction : Ending
  Certified : CertificateEnding → Ending
  TooLarge : Task → What → Ending
  Overflows : Overflow → Ending
  Stopped : Ending
  HeapFull : Ending
  WriteFault : Ending
  BadPrices : PriceFault → Ending
  BadBounds : DeclFault → Ending
  LineTooLarge : ℕ → Ending
  OfOther : Ending → Ending

-- What the code's statuses are as endings. None is one for want of memory, nor one that holds another call's want of memory.
abbrev pub parse_ending : ParseFault → Option Ending
parse_ending p.NoMemory = None
parse_ending (p.Lex l.NoMemory) = None
parse_ending fault = Some (Source (Parse fault))

abbrev pub source_ending : SourceFault → Option Ending
source_ending (source.Parse fault) = parse_ending fault
source_ending (source.«Type» fault) = option_map (λ first. Source (Types first)) (types_read.fault_of fault)

abbrev pub data_ending : DataFault → Option Ending
data_ending d.NoMemory = None
data_ending fault = Some (BadData fault)

abbrev pub json_ending : JsonFault → Option Ending
json_ending j.NotJson = Some (Certified (Json text.NotJson))
json_ending (j.Shape place) = Some (Certified (Json (text.Shape (place_of place))))
json_ending (j.Number place) = Some (Certified (Json (text.Number (place_of place))))
json_ending j.NoMemory = None

-- a total that leaves, and a context that is too large, have endings of their own
abbrev pub check_ending : Option check.Fault → Option Ending
check_ending (Some (check.Shape block)) = Some (Certified (Check (check.Shape block)))
check_ending (Some (check.Fails block path index)) = Some (Certified (Check (check.Fails block path index)))
check_ending _ = None

abbrev pub certificate_ending : CertAnswer → Option Ending
certificate_ending (c.Json fault) = json_ending fault
certificate_ending (c.Check fault) = check_ending (check_read.fault_of fault)
certificate_ending (c.NotRefuted block) = Some (Certified (NotRefuted block))

abbrev pub leaving : LeavesAt → Option Overflow
leaving (at.Check block path index) = Some (InCheck block path.items index)
leaving place = option_map (λ told. OnTask told.0 told.1) (told_of place)

abbrev pub overflow_of : OverflowAt → Option Overflow
overflow_of (o.At place) = leaving place
overflow_of (o.Point meter) = Some (AtPoint meter)
overflow_of (o.Powers fun meter) = Some (InPowers fun.0 meter)
overflow_of (o.DeclaredBound line) = Some (OnLine line)

abbrev pub course_ending : InferFault → Option Ending
course_ending (infer.TooLarge task what) = Some (TooLarge (task_of task) (what_of what))
course_ending (infer.Leaves place) = option_map Overflows (leaving place)
course_ending infer.NoMemory = None

abbrev pub ending_of : Status → Option Ending
ending_of s.Done = Some Done
ending_of s.Usage = Some Usage
ending_of (s.ReadFault which) = Some (ReadFault which)
ending_of (s.TooLong which) = Some (TooLong which)
ending_of (s.Source fault) = source_ending fault
ending_of (s.Data fault) = data_ending fault
ending_of s.NoFunction = Some NoFunction
ending_of (s.Certificate answer) = certificate_ending answer
ending_of (s.TooLarge task what) = Some (TooLarge (task_of task) (what_of what))
ending_of (s.Overflow place) = option_map Overflows (overflow_of place)
ending_of s.Stopped = Some Stopped
ending_of s.HeapFull = Some HeapFull
ending_of s.WriteFault = Some WriteFault
ending_of (s.Prices fault) = Some (BadPrices fault)
ending_of (s.Declared fault) = Some (BadBounds fault)
ending_of (s.LineTooLarge line) = Some (LineTooLarge line)
ending_of (s.OtherSource fault) = option_map OfOther (source_ending fault)
ending_of (s.OtherFault fault) = option_map OfOther (course_ending fault)
ending_of s.NoMemory = None

-- the number that the program ends with
abbrev pub code_of : Status → ℕ
code_of s.Done = 0
code_of s.Usage = 1
code_of (s.ReadFault which) = 2
code_of (s.TooLong which) = 3
code_of (s.Source fault) = 4
code_of (s.Data fault) = 5
code_of s.NoFunction = 6
code_of (s.Certificate answer) = 7
code_of (s.TooLarge task what) = 8
code_of (s.LineTooLarge line) = 8
code_of (s.Overflow place) = 9
code_of s.Stopped = 10
code_of s.HeapFull = 11
code_of s.WriteFault = 12
code_of (s.Declared fault) = 14
code_of (s.Prices fault) = 15
code_of (s.OtherSource fault) = 16
code_of (s.OtherFault fault) = 17
code_of s.NoMemory = 70

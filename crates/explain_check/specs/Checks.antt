-- What checks of sources and files tell.
use Rattle.std.specs.Prelude.{◌≡◌, ℕ, ◌≤◌, ◌⊎◌, List, [], ◌∷◌, ◌++◌, map, length, Option, Some, None, Err, codes}
use Rattle.std.specs.Fmt.{decimal}
use Rattle.std.specs.Borrow.{Bor}
use Rattle.std.specs.List.{All}
use Rattle.raml_syntax.specs.Tree.{Text, Function, Prog}
use Rattle.raml_syntax.specs.Node.{WithinLimits, program_nodes}
use Rattle.raml_syntax.specs.Read.{program_of}
use Rattle.raml_syntax.specs.declared.program.Program.{Program}
use Rattle.raml_syntax.specs.Types.{Typed}
use Rattle.raml_parse.specs.Spelling.{Spells, FirstFault}
use Rattle.raml_parse.specs.declared.fault.ParseFault.{ParseFault}
use Rattle.simple_types.specs.Read.{fault_of}
use Rattle.simple_types.specs.Fault.{Fault}
use Rattle.simple_types.specs.Walk.{walk_program}
use Rattle.simple_types.specs.declared.fault.TypeFault.{TypeFault}
use Rattle.explain_messages.specs.Places.{syntax_place, type_place}
use Rattle.explain_places.specs.Places.{line, column}
use Rattle.explain_check.specs.Stores.{Store, Holds, Unread}
use Rattle.explain_check.specs.declared.program.Source.{Source}
use Rattle.explain_check.specs.declared.verdict.Verdict.{Verdict}
use Rattle.explain_check.specs.declared.verdict.Verdict.TheVariants as v

abbrev pub IsTypedSource : Text → Type 0
IsTypedSource source = (P : Prog) × Spells source P × Typed P

-- it spells no program: its first fault is at this byte
abbrev pub UnspelledAt : Text → ℕ → Type 0
UnspelledAt source at = (fault : ParseFault) × FirstFault source fault × (syntax_place fault ≡ Some at)

-- the program that it spells is not typed: the first fault of its types is at this byte
abbrev pub UntypedAt : Text → ℕ → Type 0
UntypedAt source at =
    (P : Prog) × (fault : TypeFault) × (first : Fault) × Spells source P × (fault_of fault ≡ Some first)
    × (walk_program P ≡ Err first) × (type_place fault ≡ Some at)

-- the byte that `raml` names where it refuses the source
abbrev pub RefusedAt : Text → ℕ → Type 0
RefusedAt source at = UnspelledAt source at ⊎ UntypedAt source at

-- NAME:LINE:COLUMN: error:
abbrev pub fault_head : Text → Text → ℕ → Text
fault_head name source at =
    name ++ (codes ":" ++ (decimal (line source at) ++ (codes ":" ++ (decimal (column source at) ++ codes ": error: "))))

abbrev pub worse : Verdict → Verdict → Verdict
worse v.Unread other = v.Unread
worse v.Faulty v.Unread = v.Unread
worse v.Faulty other = v.Faulty
worse v.Typed other = other

-- what is told of a source: nothing of one that is typed, and of another the line and column of the byte that `raml` names
abbrev pub FaultIs : Text → Text → Verdict → Text → Type 0
FaultIs name source v.Typed part = IsTypedSource source × (part ≡ [])
FaultIs name source v.Faulty part = (at : ℕ) × (rest : Text) × RefusedAt source at × (part ≡ fault_head name source at ++ rest)
FaultIs name source v.Unread part = ⊥

-- the source spells this typed program, which keeps the limits of programs and has at most as many nodes as the source has bytes
pub record IsProgramOf (source : Text) (P : Prog) : Type 0 where
  pub spelled : Spells source P
  pub typed : Typed P
  pub limits : WithinLimits P
  pub parameters : All (λ (g : Function). 1 ≤ length g.params) P
  pub few_nodes : program_nodes P ≤ length source

-- a source that spells a typed program, of which nothing is told, or that spells none
abbrev pub SourceGives : Text → Text → Option Program → Text → Type 0
SourceGives name source (Some program) part = IsProgramOf source (program_of program) × (part ≡ [])
SourceGives name source None part = FaultIs name source v.Faulty part

abbrev pub most_bytes : ℕ
most_bytes = 1048576

-- the texts that are lent
abbrev pub texts : List (Bor Text) → List Text
texts = map (λ (name : Bor Text). name.now)

-- what is told of a file: that of its source, or that it is not read
abbrev pub FileIs : Store → Text → Verdict → Text → Type 0
FileIs store name v.Unread part = Unread store most_bytes name part
FileIs store name verdict part =
    (source : Text) × Holds store name source × (length source ≤ most_bytes) × FaultIs name source verdict part

-- what is told of files: the worst, and all parts in order
abbrev pub FilesAre : Store → List Text → Verdict → Text → Type 0
FilesAre store [] verdict parts = (verdict ≡ v.Typed) × (parts ≡ [])
FilesAre store (name ∷ names) verdict parts =
    (first : Verdict) × (others : Verdict) × (part : Text) × (rest : Text) × FileIs store name first part
    × FilesAre store names others rest × (verdict ≡ worse first others) × (parts ≡ part ++ rest)

-- ---- a file that holds a program

-- the file holds a source that spells this typed program
abbrev pub HoldsProgram : Store → Text → Prog → Type 0
HoldsProgram store file P = (source : Text) × Holds store file source × IsProgramOf source P

-- the source is not read, or spells no typed program
abbrev pub LacksProgram : Store → Text → Text → Type 0
LacksProgram store file report = FileIs store file v.Unread report ⊎ FileIs store file v.Faulty report

-- a file whose source spells a typed program, of which nothing is told, or that holds none
abbrev pub ProgramGives : Store → Text → Option Source → Text → Type 0
ProgramGives store file (Some source) part =
    Holds store file source.bytes.items × (length source.bytes.items ≤ most_bytes)
    × IsProgramOf source.bytes.items (program_of source.typed) × (part ≡ [])
ProgramGives store file None part = LacksProgram store file part

-- The steps of a call.
use Rattle.std.specs.Prelude.{◌≡◌, ◌≤◌, ℕ, suc, List, length, Some, None, Err}
use Rattle.raml_syntax.specs.Tree.{Text, Prog}
use Rattle.raml_syntax.specs.Types as types
use Rattle.raml_parse.specs.Spelling as spelling
use Rattle.simple_types.specs.Walk.{walk_program}
use Rattle.call_groups.specs.Groups.{Grouping, IsGrouping}
use Rattle.rules_soundness_laws.specs.Laws.{normal_of}
use Rattle.annot_types.specs.Program.{Program}
use Rattle.refusals.specs.Ending.{Ending, Done, ReadFault, TooLong, Source, Parse, Types, OfOther}
use Rattle.refusals.specs.Line.{Names, no_names}
use Rattle.raml_promise.specs.Outside.{Side, Also, Store, IsRead}
use Rattle.refusal_text.specs.declared.plain.Which.{Which}
use Rattle.refusal_text.specs.declared.plain.Which.TheVariants as w
use Rattle.refusal_text.specs.declared.task.Analysed.{Analysed}
use Rattle.refusal_text.specs.declared.task.Analysed.TheVariants as a

-- What a call answers: a report, which ends so, or a refusal.
pub data Answer : Type 0 where
  Report : Ending → Text → Answer
  Refusal : Names → Ending → Answer

abbrev pub ending_in : Answer → Ending
ending_in (Report ending text) = ending
ending_in (Refusal names ending) = ending

-- A step of a call. It is refused, and that is the answer; or it comes to something, of which the rest answers.
pub data Step {X : Type 0} (names : Names) (Refuses : Ending → Type 0) (Comes : X → Type 0)
    (Rest : X → Answer → Type 0) (a : Answer) : Type 0 where
  refused : (e : Ending) → Refuses e → a ≡ Refusal names e → Step names Refuses Comes Rest a
  goes_on : (x : X) → Comes x → Rest x a → Step names Refuses Comes Rest a

-- A test: it is refused, or it is passed and the rest answers.
abbrev pub Test : Names → (Ending → Type 0) → Type 0 → (Answer → Type 0) → Answer → Type 0
Test names Refuses Passes Rest = Step names Refuses (λ (done : Unit {0}). Passes) (λ done. Rest)

-- a report that ends with Done, of which this is promised
abbrev pub Prints : Side → (Text → Type 0) → Answer → Type 0
Prints side Is (Report Done text) = Also side (Is text)
Prints side Is _ = ⊥

-- the limits of files, in bytes
abbrev pub most_bytes : Which → ℕ
most_bytes w.Program = 1048576
most_bytes w.Data = 4194304
most_bytes w.Certificate = 16777216
most_bytes w.Prices = 1048576
most_bytes w.Bounds = 1048576
most_bytes w.Other = 1048576

abbrev pub IsTooLong : Which → List ℕ → Type 0
IsTooLong which bytes = suc (most_bytes which) ≤ length bytes

-- The bytes are no more than their limit.
abbrev pub OfShort : Which → List ℕ → (Answer → Type 0) → Answer → Type 0
OfShort which bytes Rest =
    Test no_names (λ e. (e ≡ TooLong which) × IsTooLong which bytes) (length bytes ≤ most_bytes which) Rest

-- A file is read.
abbrev pub OfFile : Side → Store → Which → Text → (List ℕ → Answer → Type 0) → Answer → Type 0
OfFile side store which file Rest =
    Step no_names
    (λ e. (e ≡ ReadFault which) × IsRead side store (most_bytes which) file None)
    (λ bytes. IsRead side store (most_bytes which) file (Some bytes))
    (λ bytes. OfShort which bytes (Rest bytes))

-- Why a source spells no typed program: its first fault, or that of the types of the program that it spells.
abbrev pub SourceRefuses : List ℕ → Ending → Type 0
SourceRefuses source (Source (Parse fault)) = spelling.FirstFault source fault
SourceRefuses source (Source (Types fault)) = (P : Prog) × spelling.Spells source P × (walk_program P ≡ Err fault)
SourceRefuses source _ = ⊥

-- the source spells this typed program
pub record IsTyped (source : List ℕ) (P : Prog) : Type 0 where
  pub spelled : spelling.Spells source P
  pub typed : types.Typed P

-- What refuses a program to compare with is what would refuse the program of the call.
abbrev pub OtherRefused : (Ending → Type 0) → Ending → Type 0
OtherRefused Refuses (OfOther e) = Refuses e
OtherRefused Refuses _ = ⊥

abbrev pub RefusedOf : Analysed → (Ending → Type 0) → Ending → Type 0
RefusedOf a.Program Refuses = Refuses
RefusedOf a.Other Refuses = OtherRefused Refuses

abbrev pub file_of : Analysed → Which
file_of a.Program = w.Program
file_of a.Other = w.Other

-- A source spells a typed program.
abbrev pub OfSource : Analysed → List ℕ → (Prog → Answer → Type 0) → Answer → Type 0
OfSource whose source Rest = Step no_names (RefusedOf whose (SourceRefuses source)) (IsTyped source) Rest

-- A file does.
abbrev pub OfProgram : Side → Store → Analysed → Text → (Prog → Answer → Type 0) → Answer → Type 0
OfProgram side store whose file Rest = OfFile side store (file_of whose) file (λ source. OfSource whose source Rest)

-- The normal form of a program, with the groups of its functions.
pub record OfNormal (P : Prog) (Rest : Program → Answer → Type 0) (a : Answer) : Type 0 where
  pub groups : Grouping
  pub grouping : IsGrouping P groups
  pub rest : Rest (normal_of P groups.list) a

abbrev pub names_of : Prog → Program → Names
names_of P N = record { program = P; groups = N.groups }

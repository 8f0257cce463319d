-- What the bytes of a file of declared bounds declare, and their first fault.
use Rattle.std.specs.Prelude.{◌≡◌, ℕ, suc, nat_eq, Bool, false, true, ◌&&◌, ◌||◌, List, [], ◌∷◌, ◌++◌, length, cond, slice_get, Some}
use Rattle.std.specs.Prelude.{Result, Ok, Err}
use Rattle.std.specs.List.{All}
use Rattle.std.specs.Str.{IsUtf8, IsValidUpTo}
use Rattle.raml_syntax.specs.Tree.{Text, Function, Prog}
use Rattle.raml_syntax.specs.Types.{types_of}
use Rattle.base_poly.specs.Indices.{index_list}
use Rattle.cost_free.specs.declared.task.Meter.{Meter}
use Rattle.cost_free.specs.declared.task.Meter.TheVariants.{Ticks, Cells, Work}
use Rattle.bound_file.specs.Lines.{Line, Declaration, AreBelow}
use Rattle.bound_file.specs.Declares.{Declares, DeclaresNothing}
use Rattle.bound_file.specs.declared.fault.LineFault.{LineFault}
use Rattle.bound_file.specs.declared.fault.LineFault.TheVariants.{Twice}
use Rattle.bound_file.specs.declared.fault.DeclFault.{DeclFault}
use Rattle.bound_file.specs.declared.fault.DeclFault.TheVariants as f
use Rattle.bound_file.specs.declared.fault.DeclError.{DeclError}
use Rattle.bound_file.specs.declared.fault.DeclError.TheVariants as e

-- the first line with one byte more at its front; that byte alone where there are no lines
abbrev pub longer : ℕ → List Text → List Text
longer byte [] = (byte ∷ []) ∷ []
longer byte (line ∷ lines) = (byte ∷ line) ∷ lines

-- The lines of a text. Each ends with a line feed, which the last one may lack; a text without bytes has none.
abbrev pub lines_in : Text → List Text
lines_in [] = []
lines_in (byte ∷ text) = cond (nat_eq byte 10) ([] ∷ lines_in text) (longer byte (lines_in text))

abbrev pub same_meter : Meter → Meter → Bool
same_meter Ticks Ticks = true
same_meter Cells Cells = true
same_meter Work Work = true
same_meter _ _ = false

-- a line declares this function on this meter
abbrev pub is_declared : List Line → ℕ → Meter → Bool
is_declared [] fun meter = false
is_declared (line ∷ lines) fun meter = (nat_eq line.fun fun && same_meter line.meter meter) || is_declared lines fun meter

-- behind these lines, each declares what none before it does
abbrev pub EachNew : List Line → List Line → Type 0
EachNew before [] = Unit {0}
EachNew before (line ∷ lines) = (is_declared before line.fun line.meter ≡ false) × EachNew (before ++ line ∷ []) lines

-- the bounds are those of functions of the program, at positions that their parameters have
abbrev pub AreWithin : Prog → Declaration → Type 0
AreWithin P D =
    All (λ line. (fun : Function) × (slice_get P line.fun ≡ Some fun)
    × AreBelow (length (index_list (types_of fun) D.degree)) line.bound) D.lines

-- Of a program, at a degree:
module _ (P : Prog) (d : ℕ) where
  -- one after the other, the texts declare these lines
  abbrev pub DeclareEach : List Text → List Line → Type 0
  DeclareEach [] [] = Unit {0}
  DeclareEach (text ∷ texts) (line ∷ lines) = Declares P d text line × DeclareEach texts lines
  DeclareEach _ _ = ⊥

  pub record AreDeclared (texts : List Text) (lines : List Line) : Type 0 where
    pub each : DeclareEach texts lines
    pub new : EachNew [] lines

  -- the bytes spell these declared bounds
  pub record Spells (bytes : Text) (D : Declaration) : Type 0 where
    pub utf8 : IsUtf8 bytes
    pub degree : D.degree ≡ d
    pub lines : AreDeclared (lines_in bytes) D.lines

  -- the line of this number, counted from 1, is reached: the lines before it declare these
  pub record Reaches (bytes : Text) (number : ℕ) (lines : List Line) (text : Text) : Type 0 where
    pub utf8 : IsUtf8 bytes
    pub before : List Text
    pub behind : List Text
    pub are : lines_in bytes ≡ before ++ text ∷ behind
    pub counted : number ≡ suc (length before)
    pub declared : AreDeclared before lines

  -- the line declares what is declared already
  abbrev pub DeclaresAgain : List Line → Text → Type 0
  DeclaresAgain lines text = (line : Line) × Declares P d text line × (is_declared lines line.fun line.meter ≡ true)

  abbrev pub IsFaulty : List Line → Text → LineFault → Type 0
  IsFaulty lines text Twice = DeclaresAgain lines text
  IsFaulty lines text fault = DeclaresNothing P d text fault

  -- The first fault of the bytes. Those that are no text come first: at the first byte that begins no character. Then the first line
  -- that declares nothing, or what is declared already.
  abbrev pub FirstFault : Text → DeclFault → Type 0
  FirstFault bytes (f.NotUtf8 at) = IsValidUpTo bytes at.0
  FirstFault bytes (f.Line number fault) = (lines : List Line) × (text : Text) × Reaches bytes number lines text × IsFaulty lines text fault

  -- what the bytes are: declared bounds, or a first fault
  abbrev pub Answers : Text → Result Declaration DeclFault → Type 0
  Answers bytes (Ok D) = Spells bytes D
  Answers bytes (Err fault) = FirstFault bytes fault

  -- bytes have one answer at most
  abbrev pub HasOneAnswer : Text → Type 0
  HasOneAnswer bytes = (a b : Result Declaration DeclFault) → Answers bytes a → Answers bytes b → a ≡ b

-- what the refusal says, unless memory ran out
abbrev pub OfFault : (DeclFault → Type 0) → DeclError → Type 0
OfFault F (e.Fault fault) = F fault
OfFault F e.NoMemory = Unit {0}

-- What the bytes of a table of prices spell, and their first fault.
use Rattle.std.specs.Prelude.{◌≡◌, ◌≤◌, ℕ, suc, nat_eq, List, [], ◌∷◌, ◌++◌, length, cond, Option, Some, None, IsSome, Result, Ok, Err}
use Rattle.std.specs.Str.{IsUtf8, IsValidUpTo}
use Rattle.std.specs.Str.Parse.{IsNumeral, digits_value}
use Rattle.raml_syntax.specs.Tree.{Text}
use Rattle.price_file.specs.Construct.{Construct, Prices, name_of, place}
use Rattle.price_file.specs.Listed.{or_free}
use Rattle.price_file.specs.declared.fault.PriceFault.{PriceFault}
use Rattle.price_file.specs.declared.fault.PriceFault.TheVariants.{NotUtf8, Shape, Twice}

-- the first line with one byte more at its front; that byte alone where there are no lines
abbrev pub longer : ℕ → List Text → List Text
longer byte [] = (byte ∷ []) ∷ []
longer byte (line ∷ lines) = (byte ∷ line) ∷ lines

-- The lines of a text. Each ends with a line feed, which the last one may lack; a text without bytes has none.
abbrev pub lines_of : Text → List Text
lines_of [] = []
lines_of (byte ∷ text) = cond (nat_eq byte 10) ([] ∷ lines_of text) (longer byte (lines_of text))

-- the line sets this price for the construct: its name, one space, and one to seven digits of value 1000000 at most
pub record Sets (line : Text) (construct : Construct) (price : ℕ) : Type 0 where
  pub digits : Text
  pub spelled : line ≡ name_of construct ++ 32 ∷ digits
  pub numeral : IsNumeral 10 digits
  pub few : length digits ≤ 7
  pub value : price ≡ digits_value 10 digits
  pub most : price ≤ 1000000

-- constructs and their prices, line by line
abbrev pub Table : Type 0
Table = List (Construct × ℕ)

-- the price that a table lists for the construct; also 0 is listed
abbrev pub listed : Table → Construct → Option ℕ
listed [] construct = None
listed (entry ∷ table) construct = cond (nat_eq (place construct) (place entry.0)) (Some entry.1) (listed table construct)

-- the prices of a table; a construct that is not listed costs nothing
abbrev pub prices_in : Table → Prices
prices_in table construct = or_free (listed table construct)

-- one after the other, the lines set the prices of the table
abbrev pub SetEach : List Text → Table → Type 0
SetEach [] [] = Unit {0}
SetEach (line ∷ lines) (entry ∷ table) = Sets line entry.0 entry.1 × SetEach lines table
SetEach _ _ = ⊥

-- no construct is listed twice
abbrev pub EachOnce : Table → Type 0
EachOnce [] = Unit {0}
EachOnce (entry ∷ table) = (listed table entry.0 ≡ None) × EachOnce table

pub record AreTable (lines : List Text) (table : Table) : Type 0 where
  pub set : SetEach lines table
  pub once : EachOnce table

-- the bytes spell the table
pub record Spells (bytes : Text) (table : Table) : Type 0 where
  pub utf8 : IsUtf8 bytes
  pub lines : AreTable (lines_of bytes) table

-- the line of this number, counted from 1, is reached: the lines before it are the table
pub record Reaches (bytes : Text) (number : ℕ) (table : Table) (line : Text) : Type 0 where
  pub utf8 : IsUtf8 bytes
  pub before : List Text
  pub behind : List Text
  pub are : lines_of bytes ≡ before ++ line ∷ behind
  pub counted : number ≡ suc (length before)
  pub lists : AreTable before table

-- no price is set by the line
abbrev pub SetsNothing : Text → Type 0
SetsNothing line = (construct : Construct) (price : ℕ) → Sets line construct price → ⊥

-- the line sets a price that the table lists already
pub record SetsAgain (table : Table) (line : Text) : Type 0 where
  pub construct : Construct
  pub price : ℕ
  pub sets : Sets line construct price
  pub again : IsSome (listed table construct)

-- The first fault of the bytes. Those that are no text come first: at the first byte that begins no character. Then the first line
-- that sets nothing, or sets what is set already.
abbrev pub FirstFault : Text → PriceFault → Type 0
FirstFault bytes (NotUtf8 at) = IsValidUpTo bytes at.0
FirstFault bytes (Shape number) = (table : Table) × (line : Text) × Reaches bytes number table line × SetsNothing line
FirstFault bytes (Twice number) = (table : Table) × (line : Text) × Reaches bytes number table line × SetsAgain table line

-- what the bytes are: a table, or a first fault
abbrev pub Answers : Text → Result Table PriceFault → Type 0
Answers bytes (Ok table) = Spells bytes table
Answers bytes (Err fault) = FirstFault bytes fault

-- bytes have one answer at most
abbrev pub HasOneAnswer : Text → Type 0
HasOneAnswer bytes = (a b : Result Table PriceFault) → Answers bytes a → Answers bytes b → a ≡ b

-- What data spells, and its first fault.
use Rattle.std.specs.Prelude.{◌≡◌, ◌≢◌, ◌≤◌, ◌<◌, ◌+◌, ℕ, List, [], ◌∷◌, ◌++◌, length, Result, Ok, Err}
use Rattle.std.specs.Str.{IsUtf8, IsValidUpTo}
use Rattle.raml_syntax.specs.Tree.{Text, Type'}
use Rattle.raml_syntax.specs.Value.{Value, HaveTypes}
use Rattle.value_text.specs.declared.word.Word.{Word}
use Rattle.value_text.specs.declared.word.Cell.{Cell}
use Rattle.value_text.specs.Stands.{StandForAll}
use Rattle.value_text.specs.declared.fault.Kind.{Kind}
use Rattle.value_text.specs.declared.fault.Kind.TheVariants as k
use Rattle.value_text.specs.declared.fault.DataFault.{DataFault}
use Rattle.value_text.specs.declared.fault.DataFault.TheVariants.{NotUtf8, Shape, TooDeep, TooManyCells, NoMemory}
use Rattle.value_text.specs.Spelling.{Token, AreWithin, most_height, sizes, spell_all}
use Rattle.value_text.specs.Lexing.{Placed, placed, kinds, left_of}

-- the tokens are those of arguments of the types, no value higher than d
pub record Spell (types : List Type') (d : ℕ) (s : List Token) (values : List Value) : Type 0 where
  pub typed : HaveTypes values types
  pub low : AreWithin d values
  pub tokens : s ≡ spell_all values types

-- some such tokens begin with these
pub record CanBegin (types : List Type') (d : ℕ) (s : List Token) : Type 0 where
  pub more : List Token
  pub values : List Value
  pub spelled : Spell types d (s ++ more) values

-- the kind of a fault at the last of the tokens s, with which no arguments within the height begin: whether some without a limit do
abbrev pub IsKind : List Type' → List Token → Kind → Type 0
IsKind types s k.Shape = (i : ℕ) → CanBegin types i s → ⊥
IsKind types s k.TooDeep = (i : ℕ) × CanBegin types i s

-- Faults types d s k u: the first fault of the tokens s is of kind k, at the first of the tokens u, or at the end where u is empty. (Where
-- no arguments are within the height at all, the first token is at fault.)
pub data Faults (types : List Type') (d : ℕ) : List Token → Kind → List Token → Type 0 where
  here :
      {s a b : List Token} {k : Kind} {t : Token}
      → s ≡ a ++ t ∷ b → (a ≢ [] → CanBegin types d a) → (CanBegin types d (a ++ t ∷ []) → ⊥) → IsKind types (a ++ t ∷ []) k
      → Faults types d s k (t ∷ b)
  end :
      {s : List Token}
      → (s ≢ [] → CanBegin types d s) → ((values : List Value) → Spell types d s values → ⊥)
      → Faults types d s k.Shape []

-- the data spells arguments of the types
pub record Spells (data' : Text) (types : List Type') (values : List Value) : Type 0 where
  pub utf8 : IsUtf8 data'
  pub spelled : Spell types most_height (kinds (placed data')) values

-- the first token that cannot stand is of this kind, so many bytes before the end
pub record StopsAt (data' : Text) (types : List Type') (k : Kind) (left : ℕ) : Type 0 where
  pub before : List Placed
  pub rest : List Placed
  pub split : placed data' ≡ before ++ rest
  pub fault : Faults types most_height (kinds (placed data')) k (kinds rest)
  pub place : left ≡ left_of rest

-- the data is text, and the first token that cannot stand, or the end, is at this place
abbrev pub IsFaultAt : Text → List Type' → Kind → ℕ → Type 0
IsFaultAt data' types k at = IsUtf8 data' × ((left : ℕ) × (at + left ≡ length data') × StopsAt data' types k left)

-- the greatest number of cells of arguments
abbrev pub most_cells : ℕ
most_cells = 1048576

-- the first fault of data: bytes that are no text come first, at the first byte that begins no character
abbrev pub FirstFault : Text → List Type' → DataFault → Type 0
FirstFault data' types (NotUtf8 at) = IsValidUpTo data' at.0
FirstFault data' types (Shape at) = IsFaultAt data' types k.Shape at.0
FirstFault data' types (TooDeep at) = IsFaultAt data' types k.TooDeep at.0
FirstFault data' types TooManyCells = (values : List Value) × Spells data' types values × (most_cells < sizes values)
FirstFault data' types NoMemory = Unit {0}

-- the words stand for the arguments that the data spells, with a cell for each of their parts
pub record AreRead (cells cells' : List Cell) (data' : Text) (types : List Type') (words : List Word) : Type 0 where
  pub values : List Value
  pub spelled : Spells data' types values
  pub stand : StandForAll cells' words values
  pub more : List Cell
  pub grows : cells' ≡ cells ++ more
  pub count : length more ≡ sizes values
  pub few : length more ≤ most_cells

-- what data is: arguments of few cells, or a first fault
abbrev pub Answers : Text → List Type' → Result (List Value) DataFault → Type 0
Answers data' types (Ok values) = Spells data' types values × (sizes values ≤ most_cells)
Answers data' types (Err NoMemory) = ⊥
Answers data' types (Err fault) = FirstFault data' types fault

-- data has one answer at most
abbrev pub HasOneAnswer : Text → List Type' → Type 0
HasOneAnswer data' types = (a b : Result (List Value) DataFault) → Answers data' types a → Answers data' types b → a ≡ b

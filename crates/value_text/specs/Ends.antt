-- How the reading of a whole text begins and ends.
use Rattle.std.specs.Prelude.{◌≡◌, ◌+◌, List, [], ◌∷◌, length, map, Bool, true, false}
use Rattle.raml_syntax.specs.Tree.{Text, Type'}
use Rattle.raml_syntax.specs.Value.{Value}
use Rattle.raml_syntax.specs.declared.tree.Pos.{Pos}
use Rattle.value_text.specs.declared.word.Word.{Word}
use Rattle.value_text.specs.declared.word.Cell.{Cell}
use Rattle.value_text.specs.Held.{held, value_of}
use Rattle.value_text.specs.declared.sign.Sign.TheVariants.{Open}
use Rattle.value_text.specs.declared.fault.Kind.{Kind}
use Rattle.value_text.specs.declared.fault.Kind.TheVariants as k
use Rattle.value_text.specs.declared.fault.Stop.{Stop}
use Rattle.value_text.specs.declared.fault.Stop.TheVariants as s
use Rattle.value_text.specs.declared.fault.DataFault.{DataFault}
use Rattle.value_text.specs.declared.fault.DataFault.TheVariants.{Shape, TooDeep}
use Rattle.value_text.specs.Spelling.{Token, Key, most_height, sizes}
use Rattle.value_text.specs.Lexing.{placed, kinds}
use Rattle.value_text.specs.Goals.{Goal, Value', Sign', More, begins}
use Rattle.value_text.specs.State.{AllBelow, Grows, is_found}
use Rattle.value_text.specs.Reading.{Spell, StopsAt}

-- what is to be read at the start
abbrev pub start : List Type' → List Goal
start [] = []
start (A ∷ []) = Value' A 0 ∷ []
start (A ∷ B ∷ As) = Sign' Open ∷ Value' A 0 ∷ More (B ∷ As) ∷ []

-- why reading stopped
abbrev pub StopsWith : Text → List Type' → Stop → Type 0
StopsWith data' types (s.Fault k left) = StopsAt data' types k left
StopsWith data' types s.NoMemory = Unit {0}

-- what is read of a whole text
pub record IsRead (cells cells' : List Cell) (data' : Text) (types : List Type') (words : List Word) : Type 0 where
  pub values : List Value
  pub spelled : Spell types most_height (kinds (placed data')) values
  pub same : values ≡ map (value_of (held cells')) words
  pub below : AllBelow (length cells') words
  pub grows : Grows cells cells'
  pub count : length cells' ≡ length cells + sizes values

-- the fault of this kind, at this place
abbrev pub IsFault : Kind → Pos → DataFault → Type 0
IsFault k.Shape at (Shape p) = p ≡ at
IsFault k.TooDeep at (TooDeep p) = p ≡ at
IsFault k at fault = ⊥

-- whether some arguments of the types begin with the token
abbrev pub is_started : List Type' → Token → Bool
is_started [] t = false
is_started (A ∷ []) t = is_found (begins A t)
is_started (A ∷ B ∷ As) (Key Open) = true
is_started (A ∷ B ∷ As) t = false

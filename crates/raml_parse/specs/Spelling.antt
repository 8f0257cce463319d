-- What the bytes of a source spell, and their first fault.
use Rattle.std.specs.Prelude.{◌≡◌, ℕ, List, [], ◌∷◌, map, length, Result, Ok, Err}
use Rattle.std.specs.Str.{IsUtf8, IsValidUpTo}
use Rattle.parse_spec.specs.Derives.{Derives, Faults}
use Rattle.parse_spec.specs.declared.Kind.{Kind}
use Rattle.parse_spec.specs.declared.Kind.TheVariants as d
use Rattle.raml_lex.specs.Lexing as lex
use Rattle.raml_lex.specs.declared.token.Token as l
use Rattle.raml_syntax.specs.Tree.{Text, Prog}
use Rattle.parse_table.specs.Tokens.{Token, Name, Number, Key, as_token}
use Rattle.parse_table.specs.Table.{Whole, grammar}
use Rattle.raml_parse.specs.declared.fault.ParseFault.{ParseFault}
use Rattle.raml_parse.specs.declared.fault.ParseFault.TheVariants.{NotUtf8, Lex, Syntax, TooDeep, TooMany, NoMemory}

-- the greatest height of a body and of a type
abbrev pub most_height : ℕ
most_height = 200

-- the longest-match tokens of a text, as the grammar sees them
pub record HasTokens (source : Text) (tokens : List Token) : Type 0 where
  pub utf8 : IsUtf8 source
  pub lexed : List l.Token
  pub spelled : lex.Spelled source lexed
  pub are : tokens ≡ map (as_token source) lexed

-- the bytes spell the program
pub record Spells (source : Text) (P : Prog) : Type 0 where
  pub tokens : List Token
  pub has : HasTokens source tokens
  pub derives : Derives grammar 0 most_height tokens (Whole P)

abbrev pub place_of : Token → ℕ
place_of (Name p x) = p
place_of (Number p n) = p
place_of (Key p k) = p

-- the place of the first of these tokens, or the end
abbrev pub place_in : ℕ → List Token → ℕ
place_in end [] = end
place_in end (t ∷ s) = place_of t

-- the first token that cannot stand is of this kind and at this place
pub record StopsAt (source : Text) (k : Kind) (at : ℕ) : Type 0 where
  pub tokens : List Token
  pub has : HasTokens source tokens
  pub rest : List Token
  pub fault : Faults grammar 0 most_height tokens k rest
  pub place : at ≡ place_in (length source) rest

-- The first fault of the bytes. Those that are no text come first: at the first byte that begins no
-- character, so that the bytes before it are the longest front that is a text. Then a lexical fault, and
-- then the first token that cannot stand.
abbrev pub FirstFault : Text → ParseFault → Type 0
FirstFault source (NotUtf8 at) = IsValidUpTo source at.0
FirstFault source (Lex fault) = IsUtf8 source × lex.FirstFault source fault
FirstFault source (Syntax at) = StopsAt source d.Syntax at.0
FirstFault source (TooDeep at) = StopsAt source d.TooDeep at.0
FirstFault source (TooMany at) = StopsAt source d.TooMany at.0
FirstFault source NoMemory = ⊥

-- what the bytes are: a program, or a first fault
abbrev pub Answers : Text → Result Prog ParseFault → Type 0
Answers source (Ok P) = Spells source P
Answers source (Err fault) = FirstFault source fault

-- bytes have one answer at most
abbrev pub HasOneAnswer : Text → Type 0
HasOneAnswer source = (a b : Result Prog ParseFault) → Answers source a → Answers source b → a ≡ b

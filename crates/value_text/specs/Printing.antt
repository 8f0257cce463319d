-- The text of values.
use Rattle.std.specs.Prelude.{◌<◌, ◌++◌, List, [], ◌∷◌, ℕ, true, false, codes, length}
use Rattle.std.specs.Fmt.{signed_decimal}
use Rattle.raml_syntax.specs.Tree.{Text, Type'}
use Rattle.raml_syntax.specs.Value.{Value, Has}
use Rattle.value_text.specs.declared.word.Cell.{Cell}
use Rattle.value_text.specs.declared.word.Word.{Word}
use Rattle.value_text.specs.Stands.{StandsFor}
use Rattle.value_text.specs.declared.sign.Sign.{Sign}
use Rattle.value_text.specs.declared.sign.Sign.TheVariants.{Open, Close, Comma, OpenList, CloseList, Leaf, Node, Nothing, Just}
use Rattle.value_text.specs.declared.printing.PrintFault.{PrintFault}
use Rattle.value_text.specs.declared.printing.PrintFault.TheVariants.{TooLong, NoMemory}
use Rattle.value_text.specs.Spelling.{Token, Key, Number, Truth, Other, spell}

-- one space after each comma, and nowhere else
abbrev pub sign_text : Sign → Text
sign_text Open = codes "("
sign_text Close = codes ")"
sign_text Comma = codes ", "
sign_text OpenList = codes "["
sign_text CloseList = codes "]"
sign_text Leaf = codes "leaf"
sign_text Node = codes "node"
sign_text Nothing = codes "none"
sign_text Just = codes "some"

abbrev pub token_text : Token → Text
token_text (Key k) = sign_text k
token_text (Number n) = signed_decimal n
token_text (Truth true) = codes "true"
token_text (Truth false) = codes "false"
token_text Other = []

abbrev pub text_of : List Token → Text
text_of [] = []
text_of (t ∷ s) = token_text t ++ text_of s

-- the text of a value of the type
abbrev pub printed : Value → Type' → Text
printed x A = text_of (spell x A [])

-- the longest text that is printed
abbrev pub most_text : ℕ
most_text = 16777216

-- the word stands for a value of the type
pub record StandsForSome (cells : List Cell) (word : Word) (A : Type') : Type 0 where
  pub value : Value
  pub stands : StandsFor cells word value
  pub has : Has value A

-- why a word is not printed: the text of its value is too long, or memory ran out
abbrev pub NotPrinted : Type' → PrintFault → Value → Type 0
NotPrinted A TooLong x = most_text < length (printed x A)
NotPrinted A NoMemory x = Unit {0}

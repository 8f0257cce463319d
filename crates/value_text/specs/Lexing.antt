-- The tokens of data. White space may stand between them; words and numbers are as long as they can be.
use Rattle.std.specs.Prelude.{◌==◌, ℕ, zero, suc, List, [], ◌∷◌, length, take, drop, pos, neg_ℤ, nat_lt, nat_le, if◌then◌else◌, codes}
use Rattle.std.specs.Prelude.{bytes_eq, true, false, map}
use Rattle.std.specs.List.{prefix_len}
use Rattle.raml_syntax.specs.Tree.{Text}
use Rattle.raml_lex.specs.Lexemes.{is_space, is_digit, is_lower, is_name_part, number_value}
use Rattle.value_text.specs.declared.sign.Sign.TheVariants.{Open, Close, Comma, OpenList, CloseList, Leaf, Node, Nothing, Just}
use Rattle.value_text.specs.Spelling.{Token, Key, Number, Truth, Other}

-- a token, and how many bytes there are from its first byte on
pub record Placed : Type 0 where
  pub left : ℕ
  pub token : Token

-- an integer of 64 bits, signed, by its digits' value
abbrev pub number_token : ℕ → Token
number_token n = if nat_lt n 9223372036854775808 then Number (pos n) else Other

-- with `-` in front
abbrev pub minus_token : ℕ → Token
minus_token n = if nat_le n 9223372036854775808 then Number (neg_ℤ (pos n)) else Other

abbrev pub word_token : Text → Token
word_token w =
    if bytes_eq w (codes "leaf") then Key Leaf
    else (if bytes_eq w (codes "node") then Key Node
    else (if bytes_eq w (codes "none") then Key Nothing
    else (if bytes_eq w (codes "some") then Key Just
    else (if bytes_eq w (codes "true") then Truth true
    else (if bytes_eq w (codes "false") then Truth false else Other)))))

abbrev pub symbol_token : ℕ → Token
symbol_token c =
    if c == 40 then Key Open
    else (if c == 41 then Key Close
    else (if c == 44 then Key Comma
    else (if c == 91 then Key OpenList
    else (if c == 93 then Key CloseList else Other))))

-- `-` before a text that begins with so many digits
abbrev pub minus_by : Text → ℕ → Token × ℕ
minus_by s zero = (Other, 0)
minus_by s (suc n) = (minus_token (number_value (take (suc n) s)), suc n)

-- of a text that begins with c, no white space, and goes on with s: the first token, and how many bytes it has behind c
abbrev pub begun_by : ℕ → Text → Token × ℕ
begun_by c s =
    if is_lower c then (word_token (c ∷ take (prefix_len is_name_part s) s), prefix_len is_name_part s)
    else (if is_digit c then (number_token (number_value (c ∷ take (prefix_len is_digit s) s)), prefix_len is_digit s)
    else (if c == 45 then minus_by s (prefix_len is_digit s)
    else (symbol_token c, 0)))

-- the tokens of a text of n bytes at most
abbrev pub tokens_up_to : ℕ → Text → List Placed
tokens_up_to zero s = []
tokens_up_to (suc n) [] = []
tokens_up_to (suc n) (c ∷ s) =
    if is_space c then tokens_up_to n s
    else ((record { left = suc (length s); token = (begun_by c s).0 }) ∷ tokens_up_to n (drop (begun_by c s).1 s))

unfoldable pub placed : Text → List Placed
placed s = tokens_up_to (length s) s

abbrev pub token_in : Placed → Token
token_in p = p.token

abbrev pub kinds : List Placed → List Token
kinds s = map token_in s

-- how many bytes there are from the first of these tokens on
abbrev pub left_of : List Placed → ℕ
left_of [] = 0
left_of (p ∷ s) = p.left

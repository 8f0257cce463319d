-- Tokens that stand one behind the other, as the code takes them.
use Rattle.std.specs.Prelude.{List, ◌++◌, Result, Ok}
use Rattle.parse_spec.specs.Reading.{Fault, ◌>>=◌, take_of}
use Rattle.parse_table.specs.Tokens.{Sign, Token}
use Rattle.parse_table.specs.declared.token.Sign.TheVariants as s
use Rattle.parse_table.specs.Table.{Part, key, name}

-- what was taken, the last token first, and the tokens behind
abbrev pub Taken : Type 0
Taken = Result (List Part × List Token) (Fault Token)

abbrev pub Front : Type 0
Front = List Token → Taken

-- one front behind the other
abbrev pub both : Front → Front → Front
both m n s = m s >>= (λ x. n x.1 >>= (λ y. Ok (y.0 ++ x.0, y.1)))

abbrev pub sign_front : Sign → Front
sign_front k = take_of (key k)

abbrev pub two_signs : Sign → Sign → Front
two_signs j k = both (sign_front j) (sign_front k)

-- a name and this keyword or symbol
abbrev pub name_then : Sign → Front
name_then k = both (take_of name) (sign_front k)

-- name , name ) =
abbrev pub pair_front : Front
pair_front = both (name_then s.Comma) (both (name_then s.Close) (sign_front s.Equal))

-- | name :: name ->
abbrev pub list_front : Front
list_front = both (sign_front s.Bar) (both (name_then s.Cons) (name_then s.Arrow))

-- | and this keyword, and (
abbrev pub open_front : Sign → Front
open_front k = both (two_signs s.Bar k) (sign_front s.Open)

-- name ) ->
abbrev pub last_front : Front
last_front = both (name_then s.Close) (sign_front s.Arrow)

-- | some ( name ) ->
abbrev pub option_front : Front
option_front = both (open_front s.Just) last_front

-- | node ( name , name , name ) ->
abbrev pub tree_front : Front
tree_front = both (open_front s.Node) (both (name_then s.Comma) (both (name_then s.Comma) last_front))

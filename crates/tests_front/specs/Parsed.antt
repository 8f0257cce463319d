-- What short programs derive, and their first faults, worked out by hand. The places are those of the text in front.
use Rattle.std.specs.Prelude.{pos, List, [], ◌∷◌}
use Rattle.parse_spec.specs.Derives.{Derives, Faults}
use Rattle.parse_spec.specs.declared.Kind.TheVariants.{Syntax, TooDeep, TooMany}
use Rattle.parse_table.specs.Tokens.{Token, Name, Number, Key}
use Rattle.parse_table.specs.declared.token.Sign.TheVariants as s
use Rattle.parse_table.specs.Table.{Whole, grammar}
use Rattle.raml_syntax.specs.Tree as t
use Rattle.raml_syntax.specs.Tree.{Text, Integer, Prog}
use Rattle.raml_syntax.specs.declared.tree.ArithOp.TheVariants.{Add, Sub, Mul}

abbrev pub x : Text
x = 120 ∷ []

abbrev pub f : Text
f = 102 ∷ []

-- fun f(x:int):int= and these
abbrev pub head : List Token → List Token
head body =
    Key 0 s.Fun ∷ Name 4 f ∷ Key 5 s.Open ∷ Name 6 x ∷ Key 7 s.Colon ∷ Key 8 s.Int ∷ Key 11 s.Close
    ∷ Key 12 s.Colon ∷ Key 13 s.Int ∷ Key 16 s.Equal ∷ body

abbrev pub program : t.Term → Prog
program body = record { at = 0; name = f; params = record { at = 6; name = x; type = Integer } ∷ []; result = Integer; body = body } ∷ []

-- fun f(x:int):int=1+x*2-x
abbrev pub sum : List Token
sum = head (Number 17 1 ∷ Key 18 s.Plus ∷ Name 19 x ∷ Key 20 s.Star ∷ Number 21 2 ∷ Key 22 s.Minus ∷ Name 23 x ∷ [])

abbrev pub sum_tree : t.Term
sum_tree = t.Arith 17 Sub (t.Arith 17 Add (t.Number 17 (pos 1)) (t.Arith 19 Mul (t.Var 19 x) (t.Number 21 (pos 2)))) (t.Var 23 x)

-- fun f(x:int):int=((x))
abbrev pub parens : List Token
parens = head (Key 17 s.Open ∷ Key 18 s.Open ∷ Name 19 x ∷ Key 20 s.Close ∷ Key 21 s.Close ∷ [])

-- fun f(x:int):int=x<x<x
abbrev pub chain : List Token
chain = head (Name 17 x ∷ Key 18 s.Less ∷ Name 19 x ∷ Key 20 s.Less ∷ Name 21 x ∷ [])

-- fun f(x:int):int=f(x,x,x,x,x,x,x,x and these
abbrev pub call : List Token → List Token
call more =
    head (Name 17 f ∷ Key 18 s.Open ∷ Name 19 x ∷ Key 20 s.Comma ∷ Name 21 x ∷ Key 22 s.Comma ∷ Name 23 x ∷ Key 24 s.Comma ∷ Name 25 x
    ∷ Key 26 s.Comma ∷ Name 27 x ∷ Key 28 s.Comma ∷ Name 29 x ∷ Key 30 s.Comma ∷ Name 31 x ∷ Key 32 s.Comma ∷ Name 33 x ∷ more)

-- , x ), where a ninth argument begins
abbrev pub ninth : List Token
ninth = Key 34 s.Comma ∷ Name 35 x ∷ Key 36 s.Close ∷ []

pub record ReadTokens : Type 0 where
  -- sums go on to the left, products bind closer; the form is 4 high, and the `-` begins the highest
  pub derives : Derives grammar 0 4 sum (Whole (program sum_tree))
  pub too_deep : Faults grammar 0 3 sum TooDeep (Key 22 s.Minus ∷ Name 23 x ∷ [])
  -- parentheses have no form, and one height each
  pub inner : Derives grammar 0 3 parens (Whole (program (t.Var 19 x)))
  -- comparisons do not chain
  pub once : Faults grammar 0 200 chain Syntax (Key 20 s.Less ∷ Name 21 x ∷ [])
  -- a call has 8 arguments at most
  pub too_many : Faults grammar 0 200 (call ninth) TooMany ninth
  -- a text may not end here
  pub ended : Faults grammar 0 200 (call []) Syntax []

-- Which token is one too many, told by counting the tokens before it.
use Rattle.std.specs.Prelude.{◌≡◌, ◌↔◌, ℕ, suc, List, [], ◌∷◌, ◌++◌}
use Rattle.parse_spec.specs.Derives.{CanBegin, Faults}
use Rattle.parse_spec.specs.declared.Kind.TheVariants.{TooMany}
use Rattle.parse_table.specs.Tokens.{Token, Key}
use Rattle.parse_table.specs.declared.token.Sign.TheVariants as s
use Rattle.parse_table.specs.Table.{grammar}
use Rattle.raml_parse.specs.Spelling.{most_height}

-- how many `fun`, after one token more
abbrev pub funs_after : ℕ → Token → ℕ
funs_after n (Key p s.Fun) = suc n
funs_after n t = n

abbrev pub funs : ℕ → List Token → ℕ
funs n [] = n
funs n (t ∷ ts) = funs (funs_after n t) ts

-- how many commas stand directly in each open bracket, the innermost first, after one token more
abbrev pub commas_after : List ℕ → Token → List ℕ
commas_after cs (Key p s.Open) = 0 ∷ cs
commas_after (n ∷ cs) (Key p s.Close) = cs
commas_after (n ∷ cs) (Key p s.Comma) = suc n ∷ cs
commas_after cs t = cs

abbrev pub commas : List ℕ → List Token → List ℕ
commas cs [] = cs
commas cs (t ∷ ts) = commas (commas_after cs t) ts

abbrev pub Innermost : ℕ → List ℕ → Type 0
Innermost n [] = ⊥
Innermost n (m ∷ cs) = m ≡ n

-- a `fun` behind 256 others, or a comma behind 7 others in its bracket
abbrev pub IsOver : ℕ → List ℕ → Token → Type 0
IsOver n cs (Key p s.Fun) = n ≡ 256
IsOver n cs (Key p s.Comma) = Innermost 7 cs
IsOver n cs t = ⊥

-- `rest` begins with the `fun` of a 257th function or the comma after an eighth parameter or argument: a program
-- begins with the tokens before it, and one that is longer in such lists begins with those up to it
pub record OneTooMany (tokens rest : List Token) : Type 0 where
  pub front : List Token
  pub token : Token
  pub behind : List Token
  pub split : tokens ≡ front ++ token ∷ behind
  pub is : rest ≡ token ∷ behind
  pub before : CanBegin grammar 0 most_height front
  pub longer : (y : ℕ) × CanBegin grammar y most_height (front ++ token ∷ [])
  pub over : IsOver (funs 0 front) (commas [] front) token

-- a text is told to have too many items exactly at such a token
abbrev pub TooManyIsCounted : Type 0
TooManyIsCounted = (tokens rest : List Token) → Faults grammar 0 most_height tokens TooMany rest ↔ OneTooMany tokens rest

-- The words of the language, each as a whole. A text is its list of bytes.
use Rattle.std.specs.Prelude.{◌≡◌, ◌≢◌, ◌+◌, ◌-◌, ◌*◌, ◌^◌, ◌<◌, ◌==◌, ◌&&◌, ◌||◌, ℕ, suc, Bool, List, [], ◌∷◌, ◌++◌, IsTrue, Contains}
use Rattle.std.specs.Prelude.{fold, nat_le, codes, ⊤}
use Rattle.std.specs.List.{AllPass}
use Rattle.raml_syntax.specs.Tree.{Text}
use Rattle.raml_lex.specs.declared.token.TokenKind.{TokenKind}
use Rattle.raml_lex.specs.declared.token.TokenKind.TheVariants.{Name, Keyword, Number, Symbol}

-- w stands at the front of s
abbrev pub IsFront : Text → Text → Type 0
IsFront w s = (rest : Text) × (s ≡ w ++ rest)

-- space, tab, line feed, carriage return
abbrev pub is_space : ℕ → Bool
is_space c = c == 32 || c == 9 || c == 10 || c == 13

-- `0` to `9`
abbrev pub is_digit : ℕ → Bool
is_digit c = nat_le 48 c && nat_le c 57

-- `a` to `z`
abbrev pub is_lower : ℕ → Bool
is_lower c = nat_le 97 c && nat_le c 122

-- `A` to `Z`
abbrev pub is_upper : ℕ → Bool
is_upper c = nat_le 65 c && nat_le c 90

-- what may follow the first letter of a name: a letter, a digit, `_` or `'`
abbrev pub is_name_part : ℕ → Bool
is_name_part c = is_lower c || is_upper c || is_digit c || c == 95 || c == 39

abbrev pub keywords : List Text
keywords =
    codes "fun" ∷ codes "let" ∷ codes "in" ∷ codes "if" ∷ codes "then" ∷ codes "else" ∷ codes "match"
    ∷ codes "with" ∷ codes "nil" ∷ codes "leaf" ∷ codes "node" ∷ codes "true" ∷ codes "false"
    ∷ codes "not" ∷ codes "tick" ∷ codes "div" ∷ codes "mod" ∷ codes "int" ∷ codes "bool"
    ∷ codes "list" ∷ codes "tree" ∷ codes "option" ∷ codes "none" ∷ codes "some" ∷ []

abbrev pub symbols : List Text
symbols =
    codes "(" ∷ codes ")" ∷ codes "," ∷ codes ":" ∷ codes "::" ∷ codes "=" ∷ codes "<" ∷ codes "<="
    ∷ codes "+" ∷ codes "-" ∷ codes "*" ∷ codes "->" ∷ codes "|" ∷ []

-- a small letter and any number of name parts
abbrev pub IsWord : Text → Type 0
IsWord [] = ⊥
IsWord (c ∷ s) = IsTrue (is_lower c) × AllPass is_name_part s

-- one or more digits, of any value
abbrev pub IsDigits : Text → Type 0
IsDigits w = (w ≢ []) × AllPass is_digit w

-- the whole word is a lexeme of the kind
abbrev pub IsLexeme : TokenKind → Text → Type 0
IsLexeme Name w = IsWord w × ¬ (Contains keywords w)
IsLexeme Keyword w = Contains keywords w
IsLexeme Number w = IsDigits w
IsLexeme Symbol w = Contains symbols w

-- the value of decimal digits
abbrev pub number_value : Text → ℕ
number_value w = fold (λ n c. n * 10 + (c - 48)) 0 w

-- a number has a value of at most 9223372036854775807
abbrev pub IsInRange : TokenKind → Text → Type 0
IsInRange Name w = ⊤
IsInRange Keyword w = ⊤
IsInRange Number w = number_value w < 2 ^ 63
IsInRange Symbol w = ⊤

-- s ends n open comments, the last of them by its last byte: read from the left, each `(*` opens one
-- more and each `*)` ends one
pub data Closes : ℕ → Text → Type 0 where
  done : {s : Text} → s ≡ [] → Closes 0 s
  opens : {n : ℕ} {s rest : Text} → Closes (suc (suc n)) rest → s ≡ codes "(*" ++ rest → Closes (suc n) s
  ends : {n : ℕ} {s rest : Text} → Closes n rest → s ≡ codes "*)" ++ rest → Closes (suc n) s
  other :
      {n c : ℕ} {s rest : Text}
      → Closes (suc n) rest → ¬ (IsFront (codes "(*") s) → ¬ (IsFront (codes "*)") s) → s ≡ c ∷ rest
      → Closes (suc n) s

-- a whole comment, with those inside it
abbrev pub IsComment : Text → Type 0
IsComment w = (rest : Text) × Closes 1 rest × (w ≡ codes "(*" ++ rest)
